-- Laws of lists that lie one after another in a flat list.
use mathlib.Core.Path.{◌≡◌, refl, ◌∙◌, ap, ap₂}
use mathlib.Core.List.{List, [], ◌∷◌, ◌++◌, flatten, flat_map, append_assoc}
use Prim.Native.Nat.{ℕ, ◌+◌, ◌-◌, ◌≤◌, ◌<◌}
use native.Mathlib.Numerals.{add-one}
use native.Mathlib.Omega.{arith}
use lib.ListN.{length, get_or, take, drop, length-append, drop_of_length-le}
use lib.Seq.{sets, drop-cons, take-append_seam, drop_at}
use Rattle.base_lists.proofs.Stores.{Stores, stores-start, stores-part, stores-end}
use Rattle.base_lists.specs.steps.Cut.{cut_at, EndsFit}
use Rattle.base_lists.specs.Group.{ends_from}

-- what is left to cut at place i of the ends: the list that ends there, and those after it
pub cut-at {ℓ} : {A : Type ℓ} (ends : List ℕ) (flat : List A) (start i : ℕ) → i < length ends
    → cut_at start (drop i ends) flat ≡ take (get_or ends i 0 - start) (drop start flat) ∷ cut_at (get_or ends i 0) (drop (i + 1) ends) flat
unfolding cut_at
cut-at ends flat start i h = rw (add-one i, drop-cons ends i 0 h)

pub fit_at : (ends : List ℕ) (size start i : ℕ) → i < length ends → EndsFit start (drop i ends) size
    → (start ≤ get_or ends i 0) × (get_or ends i 0 ≤ size) × EndsFit (get_or ends i 0) (drop (i + 1) ends) size
unfolding EndsFit
fit_at ends size start i h f = rw (add-one i) (rw (drop-cons ends i 0 h) at f)

-- the lists written one after another and cut at their ends are the lists
pub cut-ends : (p : List ℕ) (ls : List (List ℕ)) (z : List ℕ) (at : ℕ) → length p ≡ at → cut_at at (ends_from at ls) (p ++ (flatten ls ++ z)) ≡ ls
unfolding cut_at ends_from flatten
cut-ends p [] z at e = refl
cut-ends p (l ∷ ls) z at e =
    let k : at + length l - at ≡ length l = omega arith in
    let q : p ++ (l ++ flatten ls ++ z) ≡ p ++ l ++ (flatten ls ++ z) = simp append_assoc in
    ap₂ (λ (x : List ℕ) (r : List (List ℕ)). x ∷ r)
    (ap₂ (λ (n : ℕ) (r : List ℕ). take n r) k (drop_at p (l ++ flatten ls ++ z) at e) ∙ ap (take (length l)) (append_assoc l (flatten ls) z) ∙ take-append_seam l (flatten ls ++ z))
    (ap (cut_at (at + length l) (ends_from (at + length l) ls)) q
    ∙ cut-ends (p ++ l) ls z (at + length l) (length-append p l ∙ ap (λ (n : ℕ). n + length l) e))

-- the ends of lists written one after another fit where the lists together do
pub ends-fit : (ls : List (List ℕ)) (at size : ℕ) → at + length (flatten ls) ≤ size → EndsFit at (ends_from at ls) size
unfolding EndsFit ends_from flatten
ends-fit [] at size h = tt
ends-fit (l ∷ ls) at size h =
    let k : at + (length l + length (flatten ls)) ≤ size = (rw length-append at h) in
    (omega arith, omega arith, ends-fit ls (at + length l) size (omega arith))

-- the loop over the lists of a flat list, each of which gives a part to store
module _ (f : List ℕ → List ℕ) (ends flat : List ℕ) where
  abbrev pub Cuts : List ℕ → ℕ → List ℕ → ℕ → ℕ → ℕ → Type 0
  Cuts free₀ at₀ free at start i =
      (i ≤ length ends) × EndsFit start (drop i ends) (length flat)
      × Stores free₀ at₀ (flat_map f (cut_at 0 ends flat)) free at (flat_map f (cut_at start (drop i ends) flat))

  pub cuts_start : (free : List ℕ) (at : ℕ) → EndsFit 0 ends (length flat) → Cuts free at free at 0 0
  cuts_start free at h = (omega arith, h, stores-start free at (flat_map f (cut_at 0 ends flat)))

  -- the list from one end to the next
  abbrev pub cut_here : ℕ → ℕ → List ℕ
  cut_here start end = take (end - start) (drop start flat)

  module _ {free₀ : List ℕ} {at₀ : ℕ} {free : List ℕ} {at : ℕ} (start i end : ℕ) (e : end ≡ get_or ends i 0) (h : i < length ends) (s : Cuts free₀ at₀ free at start i) where
    cuts_at : flat_map f (cut_at start (drop i ends) flat) ≡ f (cut_here start end) ++ flat_map f (cut_at end (drop (i + 1) ends) flat)
    unfolding flat_map
    cuts_at = rw (cut-at ends flat start i h, e)

    pub cuts_fit : (start ≤ end) × (end ≤ length flat) × EndsFit end (drop (i + 1) ends) (length flat)
    cuts_fit = rw e (fit_at ends (length flat) start i h s.1)

    pub cuts_part : {free' : List ℕ} {at' : ℕ} → (at' ≡ at + length (f (cut_here start end))) × (free' ≡ sets free at (f (cut_here start end))) → Cuts free₀ at₀ free' at' end (i + 1)
    cuts_part w = (
      omega arith,
      cuts_fit.2,
      stores-part (f (cut_here start end)) (flat_map f (cut_at end (drop (i + 1) ends) flat)) (rw cuts_at at s.2) w.0 w.1,
    )

    -- the count after a part stays under any number that the whole's count stays under
    pub cuts_count : (most : ℕ) → at₀ + length (flat_map f (cut_at 0 ends flat)) < most → at + length (f (cut_here start end)) < most
    cuts_count most m =
        let k : at + (length (f (cut_here start end)) + length (flat_map f (cut_at end (drop (i + 1) ends) flat))) ≡ at₀ + length (flat_map f (cut_at 0 ends flat)) =
        (rw (cuts_at, length-append) at s.2.counted) in
        omega arith

  pub cuts_end : {free₀ : List ℕ} {at₀ : ℕ} {free : List ℕ} {at : ℕ} (start i : ℕ) → length ends ≤ i → Cuts free₀ at₀ free at start i
      → (at ≡ at₀ + length (flat_map f (cut_at 0 ends flat))) × (free ≡ sets free₀ at₀ (flat_map f (cut_at 0 ends flat)))
  unfolding flat_map cut_at
  cuts_end start i h s = stores-end (rw (drop_of_length-le ends {i = i} h) at s.2)
