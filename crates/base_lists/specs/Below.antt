-- Tests, counts and sums over the numbers below a bound.
use Rattle.std.specs.Prelude.{Bool, true, false, ◌&&◌, ℕ, zero, suc, ◌+◌}

-- 1 for a test that holds, 0 for one that fails
unfoldable pub one : Bool → ℕ
one true = 1
one false = 0

-- the test holds of every number below the bound
unfoldable pub all_below : ℕ → (ℕ → Bool) → Bool
all_below zero p = true
all_below (suc n) p = all_below n p && p n

-- how many numbers below the bound pass the test
unfoldable pub count_below : ℕ → (ℕ → Bool) → ℕ
count_below zero p = 0
count_below (suc n) p = count_below n p + one (p n)

-- the sum of what the function gives for the numbers below the bound
unfoldable pub sum_below : ℕ → (ℕ → ℕ) → ℕ
sum_below zero f = 0
sum_below (suc n) f = sum_below n f + f n
