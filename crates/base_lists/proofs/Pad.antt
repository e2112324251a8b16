-- A pool padded with zeros, written from the front.
use mathlib.Core.Path.{◌≡◌, refl, sym, ap, ◌∙◌}
use mathlib.Core.List.{List, [], ◌∷◌, ◌++◌, append-nil, append_assoc}
use Prim.Native.Nat.{ℕ, zero, suc, ◌+◌, ◌-◌, ◌≤◌, ◌<◌}
use native.Mathlib.Nat.{add-zero, add-suc, suc-add}
use native.Mathlib.Numerals.{add-one}
use native.Mathlib.Decide.{ℕ_discrete}
use native.Mathlib.Omega.{arith}
use lib.Arith.{lt_of_le-ne}
use lib.ListN.{length, get_or, take, set, replicate, length-append, length-replicate, replicate-append-replicate, drop, length-drop}
use lib.Seq.{sets, get_or-set_same, get_or-set_other, set-append_seam, take-suc-set, take_all, take-append-le, drop-append-le}
use Rattle.base_lists.specs.Pool.{pad, window}

-- an empty result padded is all zero
pub pad_nil : (n : ℕ) → pad n [] ≡ replicate n 0
unfolding pad
pad_nil n =
    let e : n - 0 ≡ n = omega arith in
    rw e

-- a result that fits is padded to the pool's length
pub length-pad : (n : ℕ) (l : List ℕ) → length l ≤ n → length (pad n l) ≡ n
unfolding pad
length-pad n l h = simp (length-append, length-replicate) (omega arith)

-- a padded result with one entry more
pub pad-set : (n : ℕ) (l : List ℕ) (v : ℕ) → length l < n → set (pad n l) (length l) v ≡ pad n (l ++ (v ∷ []))
unfolding pad
pad-set n l v h =
    let e : n - length l ≡ suc (n - (length l + 1)) = omega arith in
    rw (e, set-append_seam l 0, length-append, append_assoc)

-- a padded result with several entries more
pub pad-sets : (n : ℕ) (l vs : List ℕ) → length l + length vs ≤ n → sets (pad n l) (length l) vs ≡ pad n (l ++ vs)
pad-sets n l [] h = ap (pad n) (sym (append-nil l))
pad-sets n l (v ∷ vs) h =
    let e : length (l ++ (v ∷ [])) ≡ suc (length l) = length-append l (v ∷ []) ∙ add-one (length l) in
    rw (pad-set n l v (omega arith), sym e, pad-sets n (l ++ (v ∷ [])) vs (rw e (omega arith)), append_assoc)

-- an entry stored behind a run of stores makes the run one longer
pub sets_snoc {ℓ} : {A : Type ℓ} (l : List A) (i : ℕ) (vs : List A) (v : A) → set (sets l i vs) (i + length vs) v ≡ sets l i (vs ++ (v ∷ []))
sets_snoc l i [] v = rw add-zero
sets_snoc l i (a ∷ vs) v = rw (add-suc i (length vs), sym (suc-add i (length vs))) (sets_snoc (set l i a) (suc i) vs v)

-- a pool cleared from the front, with one entry more
pub zeros-more : (l : List ℕ) (i : ℕ) → i < length l → take i l ≡ replicate i 0 → take (i + 1) (set l i 0) ≡ replicate (i + 1) 0
zeros-more l i h e = ap (λ (k : ℕ). take k (set l i 0)) (add-one i) ∙ take-suc-set l i 0 h ∙ ap (λ (k : List ℕ). k ++ (0 ∷ [])) e ∙ replicate-append-replicate i 1 0

pub zeros-all : (l : List ℕ) (i n : ℕ) → length l ≡ n → n ≤ i → i ≤ n → take i l ≡ replicate i 0 → l ≡ replicate n 0
zeros-all l i n h a b e =
    let k : i ≡ n = omega arith in
    sym (take_all n l (omega arith)) ∙ (rw k at e)

-- an array filled from the front with a function's values, with one entry more
pub fill_more : (l : List ℕ) (f : ℕ → ℕ) (i v : ℕ) → i < length l → v ≡ f i → ((k : ℕ) → k < i → get_or l k 0 ≡ f k) → (k : ℕ) → k < i + 1 → get_or (set l i v) k 0 ≡ f k
fill_more l f i v h e below k b =
    elim (ℕ_discrete k i) [
      | yes d ↦ rw d (get_or-set_same l i v 0 h ∙ e)
      | no n ↦ get_or-set_other l i k v 0 n ∙ below k (lt_of_le-ne (let m : k ≤ i = omega arith in m) n)
    ]

-- what is read of a padded result is the result's, or zero
pub pad-at : (n : ℕ) (l : List ℕ) (i : ℕ) → get_or (pad n l) i 0 ≡ get_or l i 0
unfolding pad
pad-at n l i = go l i (n - length l)
  where
    zeros : (k i : ℕ) → get_or {A = ℕ} (replicate k 0) i 0 ≡ 0
    zeros zero i = refl
    zeros (suc k) zero = refl
    zeros (suc k) (suc i) = zeros k i

    go : (l : List ℕ) (i k : ℕ) → get_or (l ++ replicate k 0) i 0 ≡ get_or l i 0
    go [] i k = zeros k i
    go (x ∷ l) zero k = refl
    go (x ∷ l) (suc i) k = go l i k

pub pad-window : (n : ℕ) (l : List ℕ) (start size : ℕ) → start + size ≤ length l → window start size (pad n l) ≡ window start size l
unfolding pad window
pad-window n l start size h =
    rw (drop-append-le start l (replicate (n - length l) 0) (omega arith)) (take-append-le size (drop start l) _ (rw length-drop (omega arith)))
