-- count_below: its range, equal tests, and a count split by value.
use mathlib.Core.Path.{◌≡◌, refl, sym}
use mathlib.Core.Bool.{Bool, true, false}
use mathlib.Core.Logic.{⊎_elim}
use Prim.Native.Nat.{ℕ, zero, suc, ◌+◌, ◌≤◌, ◌<◌}
use native.Mathlib.Nat.{not-suc-le-zero, eq-or-lt_of_le, le_of_suc-le-suc}
use native.Mathlib.Omega.{arith}
use borrow.Author.Tests.{lt-ltb, le-ltb, ltb-true, ltb-false, eqb-true, eqb-false}
use lib.Arith.{lt_of_le-ne}
use lib.Dec.{eqb, ltb}
use Rattle.base_lists.specs.Below.{one, count_below}

pub one_le : (b : Bool) → one b ≤ 1
unfolding one
one_le true = omega arith
one_le false = omega arith

-- no more numbers are counted than there are below the bound
pub count_le : (n : ℕ) (p : ℕ → Bool) → count_below n p ≤ n
unfolding count_below
count_le zero p = omega arith
count_le (suc n) p = omega (arith, count_le n p, one_le (p n))

-- below a number that passes fewer are counted than below the bound
pub count_misses : (n : ℕ) (p : ℕ → Bool) (i : ℕ) → i < n → p i ≡ true → count_below i p < count_below n p
unfolding count_below one
count_misses zero p i l e = absurd (not-suc-le-zero l)
count_misses (suc n) p i l e =
    ⊎_elim (λ k. rw k (here (rw k at e))) (λ k. omega (arith, count_misses n p i k e))
    (eq-or-lt_of_le (le_of_suc-le-suc l))
  where
    here : p n ≡ true → count_below n p < count_below n p + one (p n)
    here t = rw t (omega arith)

-- tests that agree below the bound count the same
pub count_ext : (n : ℕ) (p q : ℕ → Bool) → ((i : ℕ) → i < n → p i ≡ q i) → count_below n p ≡ count_below n q
unfolding count_below
count_ext zero p q h = refl
count_ext (suc n) p q h = rw (count_ext n p q (λ i l. h i (omega arith)), h n (omega arith))

-- where one test's count is the sum of two others' at each number, so are the counts
pub count-sum : (n : ℕ) (p q r : ℕ → Bool) → ((i : ℕ) → i < n → one (p i) ≡ one (q i) + one (r i)) → count_below n p ≡ count_below n q + count_below n r
unfolding count_below
count-sum zero p q r h = refl
count-sum (suc n) p q r h = omega (arith, count-sum n p q r (λ i l. h i (omega arith)), h n (omega arith))

-- a value below r + 1 is below r or is r
pub one_split : (x r : ℕ) → one (ltb x (suc r)) ≡ one (ltb x r) + one (eqb x r)
unfolding one
one_split x r = go (ltb x r) (eqb x r) refl refl
  where
    go : (a b : Bool) → ltb x r ≡ a → eqb x r ≡ b → one (ltb x (suc r)) ≡ one (ltb x r) + one (eqb x r)
    go true true s t = absurd (omega (arith, ltb-true x r s, eqb-true x r t))
    go true false s t = rw (s, t, lt-ltb x (suc r) (omega (arith, ltb-true x r s)))
    go false true s t = rw (s, t, lt-ltb x (suc r) (omega (arith, eqb-true x r t)))
    go false false s t = rw (s, t, le-ltb x (suc r) (lt_of_le-ne (ltb-false x r s) (λ e. eqb-false x r t (sym e))))

pub count-split : (n : ℕ) (f : ℕ → ℕ) (r : ℕ) → count_below n (λ i. ltb (f i) (suc r)) ≡ count_below n (λ i. ltb (f i) r) + count_below n (λ i. eqb (f i) r)
count-split n f r = count-sum n _ _ _ (λ i l. one_split (f i) r)
