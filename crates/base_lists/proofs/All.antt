-- Laws of a test of every element: a search from place i on, joined lists, and what the Bool says of each
-- element.
use mathlib.Core.Path.{◌≡◌, refl, sym, ◌∙◌, ap}
use mathlib.Core.Bool.{Bool, true, false, ◌&&◌, and_assoc}
use mathlib.Core.List.{List, [], ◌∷◌, ◌++◌}
use Prim.Native.Nat.{ℕ, zero, suc, ◌+◌, ◌≤◌, ◌<◌}
use native.Mathlib.Nat.{le_of_suc-le-suc, not-suc-le-zero}
use native.Mathlib.Numerals.{add-one}
use native.Mathlib.Omega.{arith}
use lib.ListN.{length, get_or, drop, drop_of_length-le}
use lib.Seq.{drop-cons}
use Rattle.base_lists.specs.All.{all_of}
use Rattle.std.specs.Cmp.{both_ways}
use Rattle.base_lists.specs.Below.{all_below}
use Rattle.base_lists.proofs.Below.{and_both, and_left, and_right, all-each, each_all}

module _ {ℓ} {A : Type ℓ} (p : A → Bool) where
  -- the code's loop at place i: an element that passes leaves the answer to those after it, one that fails
  -- decides
  pub all-passes : (l : List A) (i : ℕ) (d : A) → i < length l → p (get_or l i d) ≡ true → all_of p (drop i l) ≡ all_of p (drop (i + 1) l)
  unfolding all_of
  all-passes l i d h t = rw (add-one i, drop-cons l i d h, t)

  pub all-fails : (l : List A) (i : ℕ) (d : A) → i < length l → p (get_or l i d) ≡ false → all_of p (drop i l) ≡ false
  unfolding all_of
  all-fails l i d h t = rw (drop-cons l i d h, t)

  pub all-passed : (l : List A) (i : ℕ) → length l ≤ i → all_of p (drop i l) ≡ true
  unfolding all_of
  all-passed l i h = rw (drop_of_length-le l h)

  -- joined lists pass exactly if each passes
  pub all_append : (l m : List A) → all_of p (l ++ m) ≡ (all_of p l && all_of p m)
  unfolding all_of
  all_append [] m = refl
  all_append (x ∷ l) m = ap (λ (b : Bool). p x && b) (all_append l m) ∙ sym (and_assoc (p x) (all_of p l) (all_of p m))

  -- a test that holds of a whole list holds of each element, and the other way
  pub all_of-each : (l : List A) (d : A) → all_of p l ≡ true → (k : ℕ) → k < length l → p (get_or l k d) ≡ true
  unfolding all_of
  all_of-each [] d h k hk = absurd (not-suc-le-zero hk)
  all_of-each (x ∷ l) d h zero hk = and_left (p x) (all_of p l) h
  all_of-each (x ∷ l) d h (suc k) hk = all_of-each l d (and_right (p x) (all_of p l) h) k (le_of_suc-le-suc hk)

  pub each-all_of : (l : List A) (d : A) → ((k : ℕ) → k < length l → p (get_or l k d) ≡ true) → all_of p l ≡ true
  unfolding all_of
  each-all_of [] d h = refl
  each-all_of (x ∷ l) d h =
      and_both (p x) (all_of p l) (h zero (omega arith)) (each-all_of l d λ k hk. h (suc k) (omega arith))

  -- the same of a test by places
  pub all_of-below : (l : List A) (d : A) → all_below (length l) (λ k. p (get_or l k d)) ≡ all_of p l
  all_of-below l d = both_ways _ _ (λ h. each-all_of l d (all-each (length l) (λ k. p (get_or l k d)) h)) (λ h. each_all (length l) _ (all_of-each l d h))
