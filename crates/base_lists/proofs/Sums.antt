-- Laws of sums and counts below a bound: equal terms, a bound on each term, and counts as sums of ones.
use mathlib.Core.Path.{◌≡◌, refl}
use mathlib.Core.Bool.{Bool, true, false, cond}
use Prim.Native.Nat.{ℕ, zero, suc, ◌*◌, ◌≤◌, ◌<◌}
use native.Mathlib.Omega.{arith}
use Rattle.base_lists.specs.Below.{one, all_below, count_below, sum_below}

-- tests that agree below the bound hold of all alike
pub all_ext : (n : ℕ) (p q : ℕ → Bool) → ((k : ℕ) → k < n → p k ≡ q k) → all_below n p ≡ all_below n q
unfolding all_below
all_ext zero p q h = refl
all_ext (suc n) p q h = rw (all_ext n p q (λ k hk. h k (omega arith)), h n (omega arith))

-- a count is a sum of ones
pub count-sum : (n : ℕ) (p : ℕ → Bool) → count_below n p ≡ sum_below n λ k. cond (p k) 1 0
unfolding count_below sum_below one
count-sum zero p = refl
count-sum (suc n) p = rw (count-sum n p, one-cond (p n))
  where
    one-cond : (b : Bool) → one b ≡ cond b 1 0
    one-cond true = refl
    one-cond false = refl

-- terms of at most 65,535 sum to at most 65,535 times their number
pub sum-word : (n : ℕ) (f : ℕ → ℕ) → ((k : ℕ) → k < n → f k ≤ 65535) → sum_below n f ≤ 65535 * n
unfolding sum_below
sum-word zero f h = omega arith
sum-word (suc n) f h =
    let a : sum_below n f ≤ 65535 * n = sum-word n f (λ k hk. h k (omega arith)) in
    let b : f n ≤ 65535 = h n (omega arith) in
    omega arith
