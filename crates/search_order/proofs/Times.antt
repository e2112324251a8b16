-- How often a number stands in a list, and sums by it: where no number below a bound is missing and none
-- stands twice, a sum over the list is one over the numbers below the bound.
use mathlib.Core.Path.{◌≡◌, refl, sym, ◌∙◌, ap}
use mathlib.Core.Bool.{Bool, true, false, false≢true, ◌||◌}
use mathlib.Core.List.{List, [], ◌∷◌, ◌++◌}
use Prim.Native.Nat.{ℕ, zero, suc, ◌+◌, ◌*◌, ◌≤◌, ◌<◌}
use native.Mathlib.Decide.{ℕ_discrete}
use native.Mathlib.Nat.{add-mul, zero-mul, one-mul, mul-one, not-suc-le-zero}
use native.Mathlib.Omega.{arith}
use borrow.Author.Tests.{eq-eqb, ne_eqb, lt-ltb, le-ltb}
use lib.Dec.{eqb, ltb}
use lib.ListN.{length, get_or, take, drop}
use lib.Seq.{split_at}
use Rattle.base_lists.specs.Below.{one, sum_below}
use Rattle.base_lists.specs.Flat.{list_below}
use Rattle.base_lists.specs.Group.{times_in}
use Rattle.base_lists.specs.Keep.{any_of, sum_over}
use Rattle.base_lists.proofs.CountBelow.{one_le, one_split}
use Rattle.base_lists.proofs.Keep.{sum_swap, sum_over_ext}
use Rattle.base_lists.proofs.SumBelow.{sum_ext}
use Rattle.base_pools.proofs.InsertLaws.{sum_over-append}

-- ---- how often a number stands in a list

-- a sum of ones
pub times_sum : (x : ℕ) (l : List ℕ) → times_in x l ≡ sum_over (λ y. one (eqb x y)) l
unfolding times_in sum_over
times_sum x [] = refl
times_sum x (y ∷ l) = rw (times_sum x l)

pub times_join : (x : ℕ) (l m : List ℕ) → times_in x (l ++ m) ≡ times_in x l + times_in x m
times_join x l m = rw (times_sum x (l ++ m), times_sum x l, times_sum x m) (sum_over-append (λ y. one (eqb x y)) l m)

-- a number stands in a list no time exactly if no entry is it
pub none_times : (x : ℕ) (l : List ℕ) → any_of (eqb x) l ≡ false → times_in x l ≡ 0
unfolding times_in any_of one
none_times x [] h = refl
none_times x (y ∷ l) h = go (eqb x y) refl h (none_times x l)
  where
    go : (b : Bool) → eqb x y ≡ b → (b || any_of (eqb x) l) ≡ false → (any_of (eqb x) l ≡ false → times_in x l ≡ 0) → one (eqb x y) + times_in x l ≡ 0
    go true e h ih = absurd (false≢true (sym h))
    go false e h ih = rw (e, ih h)

pub times_none : (x : ℕ) (l : List ℕ) → times_in x l ≡ 0 → any_of (eqb x) l ≡ false
unfolding times_in any_of one
times_none x [] h = refl
times_none x (y ∷ l) h = go (eqb x y) refl (times_none x l)
  where
    go : (b : Bool) → eqb x y ≡ b → (times_in x l ≡ 0 → any_of (eqb x) l ≡ false) → (b || any_of (eqb x) l) ≡ false
    go true e ih = absurd (let k : one true + times_in x l ≡ 0 = (rw e at h) in omega arith)
    go false e ih = ih (let k : one false + times_in x l ≡ 0 = (rw e at h) in omega arith)

one_self : (x : ℕ) → one (eqb x x) ≡ 1
unfolding one
one_self x = rw (eq-eqb x x refl)

-- an entry stands at its place, and before it and after it as often as there
pub times_split : (l : List ℕ) (i : ℕ) → i < length l → times_in (get_or l i 0) l ≡ times_in (get_or l i 0) (take i l) + suc (times_in (get_or l i 0) (drop (suc i) l))
unfolding times_in
times_split l i h =
    let x = get_or l i 0 in
    ap (times_in x) (split_at l i 0 h) ∙ times_join x (take i l) (x ∷ drop (suc i) l) ∙ rw (one_self x) (omega arith)

-- ---- sums below a bound

-- a sum over the numbers below a bound, as a list, is the sum below it
pub sum-list : (n : ℕ) (f : ℕ → ℕ) → sum_over f (list_below n (λ k. k)) ≡ sum_below n f
unfolding list_below sum_below sum_over
sum-list zero f = refl
sum-list (suc n) f = rw (sum_over-append f (list_below n (λ k. k)) (n ∷ []), sum-list n f) (omega arith)

-- a number is one of those below the bound, or none
pub sum-once : (n x : ℕ) → sum_below n (λ k. one (eqb x k)) ≡ one (ltb x n)
unfolding sum_below one
sum-once zero x = rw (le-ltb x 0 (omega arith))
sum-once (suc n) x = rw (sum-once n x) (sym (one_split x n))

sum_pick : (n : ℕ) (f : ℕ → ℕ) (x : ℕ) → sum_below n (λ k. one (eqb k x) * f k) ≡ one (ltb x n) * f x
unfolding sum_below one
sum_pick zero f x = rw (le-ltb x 0 (omega arith), zero-mul)
sum_pick (suc n) f x =
    elim (ℕ_discrete x n) [
      | yes e ↦ rw (sum_pick n f x, le-ltb x n (omega arith), lt-ltb x (suc n) (omega arith), eq-eqb n x (sym e), e) (omega arith)
      | no m ↦ rw (sum_pick n f x, ne_eqb n x (λ e. m (sym e)), zero-mul, same m) (omega arith)
    ]
  where
    same : (x ≡ n → ⊥) → one (ltb x (suc n)) ≡ one (ltb x n)
    same m = rw (one_split x n, ne_eqb x n m) (omega arith)

-- terms that are at most others, with no smaller sum, are those
sum_le : (n : ℕ) (f g : ℕ → ℕ) → ((k : ℕ) → k < n → f k ≤ g k) → sum_below n f ≤ sum_below n g
unfolding sum_below
sum_le zero f g h = omega arith
sum_le (suc n) f g h = omega (arith, sum_le n f g (λ k l. h k (omega arith)), h n (omega arith))

sum_tight : (n : ℕ) (f g : ℕ → ℕ) → ((k : ℕ) → k < n → f k ≤ g k) → sum_below n g ≤ sum_below n f → (k : ℕ) → k < n → f k ≡ g k
unfolding sum_below
sum_tight zero f g h s k l = absurd (not-suc-le-zero l)
sum_tight (suc n) f g h s k l =
    let a : sum_below n f ≤ sum_below n g = sum_le n f g (λ j m. h j (omega arith)) in
    let b : f n ≤ g n = h n (omega arith) in
    elim (ℕ_discrete k n) [
      | yes e ↦ rw e (let c : f n ≡ g n = omega arith in c)
      | no m ↦ sum_tight n f g (λ j i. h j (omega arith)) (omega arith) k (omega arith)
    ]

sum_ones : (n : ℕ) → sum_below n (λ k. 1) ≡ n
unfolding sum_below
sum_ones zero = refl
sum_ones (suc n) = rw (sum_ones n) (omega arith)

pub length-sum : (l : List ℕ) → sum_over (λ x. 1) l ≡ length l
unfolding sum_over
length-sum [] = refl
length-sum (x ∷ l) = rw (length-sum l) (omega arith)

-- ---- a list in which each number below a bound may stand once, and no other

module _ (n : ℕ) where
  abbrev pub Once : List ℕ → Type 0
  Once l = (x : ℕ) → times_in x l ≤ one (ltb x n)

  once-rest : (y : ℕ) (l : List ℕ) → Once (y ∷ l) → Once l
  unfolding times_in
  once-rest y l h x = omega (arith, h x)

  once-below : (y : ℕ) (l : List ℕ) → Once (y ∷ l) → one (ltb y n) ≡ 1
  unfolding times_in
  once-below y l h =
      let k : one (eqb y y) + times_in y l ≤ one (ltb y n) = h y in
      let e : one (eqb y y) ≡ 1 = one_self y in
      omega (arith, one_le (ltb y n))

  -- a sum over such a list is one by how often each number stands in it
  sum-within : (f : ℕ → ℕ) (l : List ℕ) → Once l → sum_over (λ x. one (ltb x n) * f x) l ≡ sum_over f l
  unfolding sum_over
  sum-within f [] h = refl
  sum-within f (y ∷ l) h = rw (once-below y l h, sum-within f l (once-rest y l h), one-mul)

  sum_times : (k c : ℕ) (l : List ℕ) → sum_over (λ x. one (eqb k x) * c) l ≡ times_in k l * c
  unfolding sum_over times_in
  sum_times k c [] = sym (zero-mul c)
  sum_times k c (y ∷ l) = rw (sum_times k c l, add-mul)

  by_times : (f : ℕ → ℕ) (l : List ℕ) → Once l → sum_below n (λ k. times_in k l * f k) ≡ sum_over f l
  by_times f l h =
      sum_ext n (λ k. times_in k l * f k) (λ k. sum_over (λ x. one (eqb k x) * f k) l) (λ k _. sym (sum_times k (f k) l))
      ∙ sum_swap n (λ k x. one (eqb k x) * f k) l
      ∙ sum_over_ext (λ x. sum_below n (λ k. one (eqb k x) * f k)) (λ x. one (ltb x n) * f x) l (sum_pick n f)
      ∙ sum-within f l h

  -- with as many entries as there are such numbers each of them stands in it
  module _ (l : List ℕ) (e : length l ≡ n) (h : Once l) where
    each_stands : (k : ℕ) → k < n → times_in k l * 1 ≡ 1
    each_stands =
        sum_tight n (λ k. times_in k l * 1) (λ k. 1)
        (λ k _. rw mul-one (omega (arith, h k, one_le (ltb k n))))
        (let s : sum_below n (λ k. times_in k l * 1) ≡ n = by_times (λ x. 1) l h ∙ length-sum l ∙ e in omega (arith, sum_ones n))

    -- a sum over such a list with as many entries is one over the numbers below the bound
    pub sum-whole : (f : ℕ → ℕ) → sum_over f l ≡ sum_below n f
    sum-whole f = sym (by_times f l h) ∙ sum_ext n (λ k. times_in k l * f k) f (λ k b. rw (rw mul-one at (each_stands k b)) (one-mul (f k)))
