-- No two answers fit what `is_higher` and `raised` promise.
use mathlib.Core.Path.{◌≡◌}
use mathlib.Core.Bool.{Bool}
use Prim.Native.Nat.{ℕ, ◌+◌, min, max}
use lib.Dec.{ltb}
use Rattle.base_lists.proofs.Outcome.{no_two}

pub one-higher : (height other : ℕ) {a b : Bool} → a ≡ ltb other height → b ≡ ltb other height → a ≡ b
one-higher height other = no_two

pub one_raised : (height under : ℕ) {a b : ℕ} → a ≡ max height (min (under + 1) 255) → b ≡ max height (min (under + 1) 255) → a ≡ b
one_raised height under = no_two
