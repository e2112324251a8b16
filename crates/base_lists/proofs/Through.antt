-- Laws for a loop that tests every number below a bound, and for equal tests.
use mathlib.Core.Path.{◌≡◌, refl, sym}
use mathlib.Core.Bool.{Bool, true}
use Prim.Native.Nat.{ℕ, zero, suc, ◌≤◌, ◌<◌}
use native.Mathlib.Omega.{arith}
use Rattle.base_lists.specs.Below.{all_below}

-- the loop has passed no number yet
pub all_none : (p : ℕ → Bool) → all_below 0 p ≡ true
unfolding all_below
all_none p = refl

-- the loop has passed every number
pub all_done : (p : ℕ → Bool) (n i : ℕ) → i ≤ n → n ≤ i → all_below i p ≡ true → true ≡ all_below n p
all_done p n i a b h = let e : i ≡ n = omega arith in sym (rw e at h)

-- tests that agree below the bound hold of all alike
pub all_ext : (n : ℕ) (p q : ℕ → Bool) → ((i : ℕ) → i < n → p i ≡ q i) → all_below n p ≡ all_below n q
unfolding all_below
all_ext zero p q h = refl
all_ext (suc n) p q h = rw (all_ext n p q (λ i k. h i (omega arith)), h n (omega arith))
