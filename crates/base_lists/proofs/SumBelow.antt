-- Sums below a bound: equal terms, more terms, and the first term apart.
use mathlib.Core.Path.{◌≡◌, refl}
use Prim.Native.Nat.{ℕ, zero, suc, ◌+◌, ◌≤◌, ◌<◌}
use native.Mathlib.Nat.{add-zero, add-suc}
use native.Mathlib.Omega.{arith}
use Rattle.base_lists.specs.Below.{sum_below}

-- terms that agree below the bound have one sum
pub sum_ext : (n : ℕ) (f g : ℕ → ℕ) → ((k : ℕ) → k < n → f k ≡ g k) → sum_below n f ≡ sum_below n g
unfolding sum_below
sum_ext zero f g h = refl
sum_ext (suc n) f g h = rw (sum_ext n f g (λ k hk. h k (omega arith)), h n (omega arith))

-- a sum with more terms is no less
pub sum-grows : (n m : ℕ) (f : ℕ → ℕ) → sum_below n f ≤ sum_below (n + m) f
unfolding sum_below
sum-grows n zero f = rw add-zero (omega arith)
sum-grows n (suc m) f = rw add-suc (omega (arith, sum-grows n m f))

-- a sum is its first term and the sum of the others
pub sum_first : (n : ℕ) (f : ℕ → ℕ) → sum_below (suc n) f ≡ f 0 + sum_below n λ k. f (suc k)
unfolding sum_below
sum_first zero f = omega arith
sum_first (suc n) f = rw (sum_first n f) (omega arith)

-- a sum of zeros is 0
pub sum_zeros : (n : ℕ) → sum_below n (λ k. 0) ≡ 0
unfolding sum_below
sum_zeros zero = refl
sum_zeros (suc n) = rw (sum_zeros n)
