-- Runs of stores: a loop that writes the rest of a list from a place on, one part after another.
use mathlib.Core.Path.{◌≡◌, refl, sym, ◌∙◌, ap}
use mathlib.Core.List.{List, [], ◌∷◌, ◌++◌, flat_map}
use Prim.Native.Nat.{ℕ, zero, suc, ◌+◌, ◌*◌, ◌-◌, ◌≤◌, ◌<◌}
use native.Mathlib.Nat.{suc-add, add-suc, add-zero, zero-add}
use native.Mathlib.Numerals.{add-one}
use native.Mathlib.Omega.{arith}
use lib.ListN.{length, get_or, take, drop, set, replicate, length-replicate, length-append, drop_of_length-le}
use lib.Seq.{sets, length-sets, sets-eq, drop-cons, take-set-le, drop-set-add, take_at}
use Rattle.base_lists.specs.Flat.{join_below}
use Rattle.base_lists.specs.Pool.{pad}
use Rattle.base_lists.proofs.Flat.{join_more, length_join}

-- a run of stores of joined lists is one run after another
pub sets-append {ℓ} : {A : Type ℓ} (l : List A) (i : ℕ) (p q : List A) → sets l i (p ++ q) ≡ sets (sets l i p) (i + length p) q
sets-append l i [] q = rw add-zero
sets-append l i (x ∷ p) q = rw (add-suc i (length p), sym (suc-add i (length p))) (sets-append (set l i x) (suc i) p q)

pub drop-replicate {ℓ} : {A : Type ℓ} (k m : ℕ) (a : A) → drop k (replicate m a) ≡ replicate (m - k) a
drop-replicate zero m a = let e : m - 0 ≡ m = omega arith in rw e
drop-replicate (suc k) zero a = let e : 0 - suc k ≡ 0 = omega arith in rw e
drop-replicate (suc k) (suc m) a = let e : suc m - suc k ≡ m - k = omega arith in rw e (drop-replicate k m a)

-- a run of stores from the front of a pool of zeros leaves the list padded
pub sets-zeros : (m : ℕ) (l : List ℕ) → length l ≤ m → sets (replicate m 0) 0 l ≡ pad m l
unfolding pad
sets-zeros m l h =
    sets-eq l (replicate m 0) 0 (rw (zero-add, length-replicate) h) ∙ rw (zero-add, drop-replicate {A = ℕ} (length l) m 0)

-- a run of stores into the part from n on is one into the whole
pub sets-part {ℓ} : {A : Type ℓ} (l : List A) (n i : ℕ) (p : List A) → n ≤ length l → take n l ++ sets (drop n l) i p ≡ sets l (n + i) p
sets-part l n i [] h = lib.ListN.take-append-drop n l
sets-part l n i (x ∷ p) h =
    rw (sym (drop-set-add n l i x), sym (take-set-le n l (n + i) x (omega arith)), sets-part (set l (n + i) x) n (suc i) p (rw lib.ListN.length-set h), add-suc n i)

-- what was stored from the front, read back
pub take-sets {ℓ} : {A : Type ℓ} (l p : List A) → length p ≤ length l → take (length p) (sets l 0 p) ≡ p
take-sets l p h = rw (sets-eq p l 0 (omega arith)) (take_at p (drop (0 + length p) l) (length p) refl)

-- the loop: what is left to store from here gives what was to store from the start
pub record Stores (free₀ : List ℕ) (at₀ : ℕ) (l₀ free : List ℕ) (at : ℕ) (l : List ℕ) : Type 0 where
  pub stored : sets free at l ≡ sets free₀ at₀ l₀
  pub counted : at + length l ≡ at₀ + length l₀
  pub same : length free ≡ length free₀

pub stores-start : (free : List ℕ) (at : ℕ) (l : List ℕ) → Stores free at l free at l
stores-start free at l = record { stored = refl; counted = refl; same = refl }

module _ {free₀ : List ℕ} {at₀ : ℕ} {l₀ free : List ℕ} {at : ℕ} where
  -- the storing loop writes a part
  pub stores-part : (p l : List ℕ) {free' : List ℕ} {at' : ℕ} → Stores free₀ at₀ l₀ free at (p ++ l) → at' ≡ at + length p → free' ≡ sets free at p
      → Stores free₀ at₀ l₀ free' at' l
  stores-part p l {free'} {at'} s a f =
      record {
        stored = rw (f, a) (sym (sets-append free at p l) ∙ s.stored);
        counted = rw a (sym (ap (λ (n : ℕ). at + n) (length-append p l) ∙ omega arith) ∙ s.counted);
        same = rw f (length-sets free at p ∙ s.same);
      }

  -- the storing loop writes one number
  pub stores_one : (v : ℕ) (l : List ℕ) {free' l' : List ℕ} → l' ≡ v ∷ l → Stores free₀ at₀ l₀ free at l' → free' ≡ set free at v → Stores free₀ at₀ l₀ free' (at + 1) l
  stores_one v l e s f = stores-part (v ∷ []) l (rw e at s) refl f

  -- the storing loop has nothing left: all is stored and counted
  pub stores-end : Stores free₀ at₀ l₀ free at [] → (at ≡ at₀ + length l₀) × (free ≡ sets free₀ at₀ l₀)
  stores-end s = (sym (add-zero at) ∙ s.counted, s.stored)

-- a function that writes nothing, or one number, stores its list whole
pub stored-none : (free : List ℕ) (at : ℕ) {l : List ℕ} → l ≡ [] → (at ≡ at + length l) × (free ≡ sets free at l)
stored-none free at e = rw e (sym (add-zero at), refl)

pub stored_one : (free : List ℕ) (at v : ℕ) {l free' : List ℕ} → l ≡ v ∷ [] → free' ≡ set free at v → (at + 1 ≡ at + length l) × (free' ≡ sets free at l)
stored_one free at v e f = rw e (refl, f)

-- the loop over a list whose elements each give a part
module _ {ℓ} {A : Type ℓ} (f : A → List ℕ) (xs : List A) where
  pub each_at : (i : ℕ) (d : A) → i < length xs → flat_map f (drop i xs) ≡ f (get_or xs i d) ++ flat_map f (drop (i + 1) xs)
  unfolding flat_map
  each_at i d h = rw (add-one i, drop-cons xs i d h)

  -- an element's part is within what is left to store
  pub each-room : (i : ℕ) (d : A) → i < length xs → length (f (get_or xs i d)) ≤ length (flat_map f (drop i xs))
  each-room i d h = rw (each_at i d h, length-append) (omega arith)

  -- the loop at place i of the list: the parts from there on are left to store
  abbrev pub Each : List ℕ → ℕ → List ℕ → ℕ → ℕ → Type 0
  Each free₀ at₀ free at i = (i ≤ length xs) × Stores free₀ at₀ (flat_map f xs) free at (flat_map f (drop i xs))

  pub each_start : (free : List ℕ) (at : ℕ) → Each free at free at 0
  each_start free at = (omega arith, stores-start free at (flat_map f xs))

  module _ {free₀ : List ℕ} {at₀ : ℕ} {free : List ℕ} {at : ℕ} (i : ℕ) where
    pub each_part : (d : A) {free' : List ℕ} {at' : ℕ} → i < length xs → Each free₀ at₀ free at i
        → (at' ≡ at + length (f (get_or xs i d))) × (free' ≡ sets free at (f (get_or xs i d))) → Each free₀ at₀ free' at' (i + 1)
    each_part d h s w =
        (omega arith, stores-part (f (get_or xs i d)) (flat_map f (drop (i + 1) xs)) (rw (each_at i d h) at s.1) w.0 w.1)

    pub each-end : length xs ≤ i → Each free₀ at₀ free at i → (at ≡ at₀ + length (flat_map f xs)) × (free ≡ sets free₀ at₀ (flat_map f xs))
    unfolding flat_map
    each-end h s = stores-end (rw (drop_of_length-le xs {i = i} h) at s.1)

    -- the count after a part stays under any number that the whole's count stays under
    pub each-count : (d : A) (most : ℕ) → i < length xs → Each free₀ at₀ free at i → at₀ + length (flat_map f xs) < most → at + length (f (get_or xs i d)) < most
    each-count d most h s m = omega (arith, each-room i d h, s.1.counted)

-- a turn of a loop that stores one record of w entries after the other
pub sets_join {ℓ} : {A : Type ℓ} (w : ℕ) (f : ℕ → List A) → ((k : ℕ) → length (f k) ≡ w) → (l : List A) {m n : List A} (at i : ℕ)
    → m ≡ sets l at (join_below i f) → n ≡ sets m (at + w * i) (f i) → n ≡ sets l at (join_below (i + 1) f)
sets_join w f h l {m} {n} at i p q =
    q
    ∙ ap (λ z. sets z (at + w * i) (f i)) p
    ∙ sym (rw (join_more i f, sets-append l at (join_below i f) (f i), length_join i w f (λ k z. h k)))

-- where a loop that stores one record after the other is left, every record is stored
pub sets-done {ℓ} : {A : Type ℓ} (f : ℕ → List A) (l : List A) {m : List A} (at n i : ℕ) → i ≤ n → n ≤ i → m ≡ sets l at (join_below i f) → m ≡ sets l at (join_below n f)
sets-done f l {m} at n i a b p = let e : i ≡ n = omega arith in rw e at p

-- where such a loop begins, nothing is stored
pub sets-start {ℓ} : {A : Type ℓ} (f : ℕ → List A) (l : List A) (at : ℕ) → l ≡ sets l at (join_below 0 f)
unfolding join_below
sets-start f l at = refl
