-- The tests that look at the sums of max alone.
use Rattle.std.specs.Prelude.{◌≡◌, Bool, true, List, ℕ, ◌+◌, ◌≤◌, ◌<◌, ltb, get_or}
use Rattle.base_lists.specs.Group.{keep_below}

-- a slot that needs this choice: its maximums with the rest's are below H
unfoldable pub is_critical : ℕ → List ℕ → ℕ → ℕ → Bool
is_critical choosers slot_max rest slot = ltb (get_or slot_max slot 0 + rest) choosers

-- the first number from a place on that passes, or the bound where none does
pub record Next (p : ℕ → Bool) (from bound found : ℕ) : Type 0 where
  pub after : from ≤ found
  pub within : found ≤ bound
  pub between : keep_below found p ≡ keep_below from p
  pub passes : found < bound → p found ≡ true
