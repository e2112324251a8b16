-- Numbers kept by a test, classes of equal value, and where lists written one after another end.
use mathlib.Core.Path.{◌≡◌, refl, ap, ap₂, fun_ext, ◌∙◌}
use mathlib.Core.Bool.{Bool, true, false, cond}
use mathlib.Core.List.{List, [], ◌∷◌, ◌++◌, append-nil, append_assoc, map, flatten}
use Prim.Native.Nat.{ℕ, zero, suc, ◌+◌, ◌≤◌, ◌<◌}
use native.Mathlib.Nat.{add-zero, add_assoc, not-suc-le-zero, le_of_suc-le-suc}
use native.Mathlib.Numerals.{add-one}
use native.Mathlib.Omega.{arith}
use borrow.Author.Tests.{eq-eqb, ne_eqb}
use lib.Dec.{eqb, ltb}
use lib.ListN.{length, length-append, get_or, take, length-map}
use lib.Seq.{take-append_seam, drop-append-add}
use Rattle.base_lists.specs.Pool.{window}
use Rattle.base_lists.specs.Below.{one, count_below}
use Rattle.base_lists.specs.Group.{keep_below, class_of, heads, classes, ends_from}
use Rattle.base_lists.proofs.CountBelow.{count_le, count_misses, count-split}

-- ---- numbers kept by a test

-- the numbers kept below a bound with one number more, that passes or that fails
pub keep_in : (n : ℕ) (p : ℕ → Bool) → p n ≡ true → keep_below (n + 1) p ≡ keep_below n p ++ (n ∷ [])
unfolding keep_below
keep_in n p e = rw (add-one, e)

pub keep_out : (n : ℕ) (p : ℕ → Bool) → p n ≡ false → keep_below (n + 1) p ≡ keep_below n p
unfolding keep_below
keep_out n p e = rw (add-one, e) (append-nil (keep_below n p))

-- as many numbers are kept as the count says
pub length-keep : (n : ℕ) (p : ℕ → Bool) → length (keep_below n p) ≡ count_below n p
unfolding keep_below count_below one
length-keep zero p = refl
length-keep (suc n) p = go (p n) (length-keep n p)
  where
    go : (b : Bool) → length (keep_below n p) ≡ count_below n p → length (keep_below n p ++ cond b (n ∷ []) []) ≡ count_below n p + one b
    go true ih = rw (length-append, ih)
    go false ih = rw (length-append, ih)

-- tests that agree below the bound keep the same
pub keep_ext : (n : ℕ) (p q : ℕ → Bool) → ((i : ℕ) → i < n → p i ≡ q i) → keep_below n p ≡ keep_below n q
unfolding keep_below
keep_ext zero p q h = refl
keep_ext (suc n) p q h = rw (keep_ext n p q (λ i l. h i (omega arith)), h n (omega arith))

-- ---- classes of equal value

module _ (f : ℕ → ℕ) (v i : ℕ) where
  -- a class with one number more, of the value or of another
  pub class_in : f i ≡ v → class_of (i + 1) f v ≡ class_of i f v ++ (i ∷ [])
  unfolding class_of
  class_in e = keep_in i _ (eq-eqb _ _ e)

  pub class_out : (f i ≡ v → ⊥) → class_of (i + 1) f v ≡ class_of i f v
  unfolding class_of
  class_out n = keep_out i _ (ne_eqb _ _ n)

-- a class has as many members as numbers have its value
pub length_class : (n : ℕ) (f : ℕ → ℕ) (v : ℕ) → length (class_of n f v) ≡ count_below n (λ i. eqb (f i) v)
unfolding class_of
length_class n f v = length-keep n _

-- below a number of its value a class isn't whole
pub class_room : (n : ℕ) (f : ℕ → ℕ) (v i : ℕ) → i < n → f i ≡ v → length (class_of i f v) < length (class_of n f v)
class_room n f v i l e =
    omega (arith, length_class i f v, length_class n f v, count_misses n (λ k. eqb (f k) v) i l (eq-eqb _ _ e))

-- ---- the numbers that are their own value, and their classes

module _ (f : ℕ → ℕ) (r : ℕ) where
  pub head_in : f r ≡ r → heads (r + 1) f ≡ heads r f ++ (r ∷ [])
  unfolding heads
  head_in e = keep_in r _ (eq-eqb _ _ e)

  pub head-out : (f r ≡ r → ⊥) → heads (r + 1) f ≡ heads r f
  unfolding heads
  head-out n = keep_out r _ (ne_eqb _ _ n)

pub heads_le : (n : ℕ) (f : ℕ → ℕ) → length (heads n f) ≤ n
unfolding heads
heads_le n f = rw (length-keep n (λ r. eqb (f r) r)) (count_le n _)

-- the groups of the heads below r, of the numbers below n
abbrev pub groups_to : ℕ → ℕ → (ℕ → ℕ) → List (List ℕ)
groups_to r n f = map (class_of n f) (heads r f)

pub map-append {ℓ κ} : {A : Type ℓ} {B : Type κ} (f : A → B) (l m : List A) → map f (l ++ m) ≡ map f l ++ map f m
map-append f [] m = refl
map-append f (x ∷ l) m = ap (λ k. f x ∷ k) (map-append f l m)

pub flatten_snoc {ℓ} : {A : Type ℓ} (ls : List (List A)) (l : List A) → flatten (ls ++ (l ∷ [])) ≡ flatten ls ++ l
unfolding flatten
flatten_snoc [] l = append-nil l
flatten_snoc (k ∷ ls) l = rw (flatten_snoc ls l, append_assoc)

module _ (r n : ℕ) (f : ℕ → ℕ) where
  pub groups_in : f r ≡ r → groups_to (r + 1) n f ≡ groups_to r n f ++ (class_of n f r ∷ [])
  groups_in e = ap (map (class_of n f)) (head_in f r e) ∙ map-append (class_of n f) (heads r f) (r ∷ [])

  pub groups-out : (f r ≡ r → ⊥) → groups_to (r + 1) n f ≡ groups_to r n f
  groups-out m = ap (map (class_of n f)) (head-out f r m)

-- the classes of the heads below r hold only numbers of values below r
pub flat_le : (r n : ℕ) (f : ℕ → ℕ) → length (flatten (groups_to r n f)) ≤ count_below n (λ i. ltb (f i) r)
unfolding heads keep_below flatten
flat_le zero n f = omega arith
flat_le (suc r) n f = go (eqb (f r) r) (flat_le r n f)
  where
    go : (b : Bool) → length (flatten (groups_to r n f)) ≤ count_below n (λ i. ltb (f i) r) → length (flatten (map (class_of n f) (heads r f ++ cond b (r ∷ []) []))) ≤ count_below n (λ i. ltb (f i) (suc r))
    go true ih = rw (map-append, flatten_snoc, length-append) (omega (arith, ih, length_class n f r, count-split n f r))
    go false ih = rw append-nil (omega (arith, ih, count-split n f r))

-- the class of r still fits behind the classes of the heads below r
pub class_fits : (r n : ℕ) (f : ℕ → ℕ) → length (flatten (groups_to r n f)) + length (class_of n f r) ≤ n
class_fits r n f = omega (arith, flat_le r n f, length_class n f r, count-split n f r, count_le n (λ i. ltb (f i) (suc r)))

-- values that agree below the bound have the same classes
pub classes_ext : (n : ℕ) (f g : ℕ → ℕ) → ((i : ℕ) → i < n → f i ≡ g i) → classes n f ≡ classes n g
unfolding classes heads class_of
classes_ext n f g h =
    ap₂ (λ (k : ℕ → List ℕ) (l : List ℕ). map k l)
    (fun_ext λ v. keep_ext n _ _ λ i l. ap (λ (x : ℕ). eqb x v) (h i l))
    (keep_ext n _ _ λ i l. ap (λ (x : ℕ). eqb x i) (h i l))

-- ---- where lists end

pub length-ends : (at : ℕ) (ls : List (List ℕ)) → length (ends_from at ls) ≡ length ls
unfolding ends_from
length-ends at [] = refl
length-ends at (l ∷ ls) = ap suc (length-ends (at + length l) ls)

pub ends_snoc : (at : ℕ) (ls : List (List ℕ)) (l : List ℕ) → ends_from at (ls ++ (l ∷ [])) ≡ ends_from at ls ++ ((at + length (flatten ls) + length l) ∷ [])
unfolding ends_from flatten
ends_snoc at [] l = rw add-zero
ends_snoc at (k ∷ ls) l = rw (ends_snoc (at + length k) ls l, length-append, add_assoc at (length k) (length (flatten ls)))

-- the end of each of the lists, by the lengths of those up to it
pub ends_at : (at : ℕ) (ls : List (List ℕ)) (k : ℕ) → k < length ls → get_or (ends_from at ls) k 0 ≡ at + length (flatten (take (suc k) ls))
unfolding ends_from flatten
ends_at at [] k h = absurd (not-suc-le-zero h)
ends_at at (l ∷ ls) zero h = rw append-nil
ends_at at (l ∷ ls) (suc k) h =
    ends_at (at + length l) ls k (le_of_suc-le-suc h) ∙ rw (length-append, add_assoc at (length l))

-- each list stands whole between the end of those before it and its own
pub piece {ℓ} : {A : Type ℓ} (ls : List (List A)) (k : ℕ) → k < length ls → window (length (flatten (take k ls))) (length (get_or ls k [])) (flatten ls) ≡ get_or ls k []
unfolding window flatten
piece [] k h = absurd (not-suc-le-zero h)
piece (l ∷ ls) zero h = take-append_seam l (flatten ls)
piece (l ∷ ls) (suc k) h = rw (length-append, drop-append-add l (flatten ls)) (piece ls k (le_of_suc-le-suc h))

-- ---- how much there is

-- there are no more classes than numbers, and no more members in them
pub classes-few : (n : ℕ) (f : ℕ → ℕ) → length (classes n f) ≤ n
unfolding classes
classes-few n f = rw length-map (heads_le n f)

pub classes-fit : (n : ℕ) (f : ℕ → ℕ) → length (flatten (classes n f)) ≤ n
unfolding classes
classes-fit n f = omega (arith, flat_le n n f, count_le n (λ i. ltb (f i) n))
