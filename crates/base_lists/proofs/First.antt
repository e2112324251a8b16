-- Laws of the first element that fails a test.
use mathlib.Core.Path.{◌≡◌, refl}
use mathlib.Core.Bool.{Bool, true, false, cond}
use mathlib.Core.List.{List, [], ◌∷◌}
use Prim.Native.Nat.{ℕ, zero, suc, ◌+◌, ◌≤◌, ◌<◌, zero-le, suc-le-suc}
use native.Mathlib.Nat.{le_of_suc-le-suc, not-suc-le-zero}
use native.Mathlib.Numerals.{add-one}
use native.Mathlib.Omega.{arith}
use lib.ListN.{length, get_or, drop}
use lib.Seq.{drop-cons}
use Rattle.base_lists.specs.First.{first_failing}

module _ {ℓ} {A : Type ℓ} (p : A → Bool) where
  -- an element that passes at place i moves the search one place on
  pub first_passes : (l : List A) (i : ℕ) (d : A) → i < length l → p (get_or l i d) ≡ true → i + first_failing p (drop i l) ≡ i + 1 + first_failing p (drop (i + 1) l)
  unfolding first_failing
  first_passes l i d h t = rw (add-one i, drop-cons l i d h, t) (omega arith)

  -- an element that fails at place i ends the search there
  pub first-fails : (l : List A) (i : ℕ) (d : A) → i < length l → p (get_or l i d) ≡ false → first_failing p (drop i l) ≡ 0
  unfolding first_failing
  first-fails l i d h t = rw (drop-cons l i d h, t)

  -- the first failing place is never past the list
  pub first_le : (l : List A) → first_failing p l ≤ length l
  unfolding first_failing
  first_le [] = zero-le
  first_le (x ∷ l) = go (p x) (first_le l)
    where
      go : (b : Bool) → first_failing p l ≤ length l → cond b (suc (first_failing p l)) 0 ≤ suc (length l)
      go true h = suc-le-suc h
      go false h = zero-le

  -- every element before the first failing place passes
  pub first-before : (l : List A) (d : A) (k : ℕ) → k < first_failing p l → p (get_or l k d) ≡ true
  unfolding first_failing
  first-before [] d k h = absurd (not-suc-le-zero h)
  first-before (x ∷ l) d k h = go (p x) refl k h (first-before l d)
    where
      go : (b : Bool) → p x ≡ b → (k : ℕ) → k < cond b (suc (first_failing p l)) 0 → ((k : ℕ) → k < first_failing p l → p (get_or l k d) ≡ true) → p (get_or (x ∷ l) k d) ≡ true
      go true e zero h ih = e
      go true e (suc k) h ih = ih k (le_of_suc-le-suc h)
      go false e k h ih = absurd (not-suc-le-zero h)

  -- where the first failing place is within the list, its element fails
  pub first-at : (l : List A) (d : A) → first_failing p l < length l → p (get_or l (first_failing p l) d) ≡ false
  unfolding first_failing
  first-at [] d h = absurd (not-suc-le-zero h)
  first-at (x ∷ l) d h = go (p x) refl h (first-at l d)
    where
      go : (b : Bool) → p x ≡ b → cond b (suc (first_failing p l)) 0 < suc (length l) → (first_failing p l < length l → p (get_or l (first_failing p l) d) ≡ false) → p (get_or (x ∷ l) (cond b (suc (first_failing p l)) 0) d) ≡ false
      go true e h ih = ih (le_of_suc-le-suc h)
      go false e h ih = e
