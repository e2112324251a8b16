-- What the pass that counts each slot's choices leaves.
use Rattle.std.specs.Prelude.{◌≡◌, Bool, true, List, ℕ}
use Rattle.base_lists.specs.All.{all_of}
use Rattle.plan_check.specs.Check.{cell_fits}
use Rattle.plan_check.specs.steps.Sums.{Sizes}

-- what the pass over the plan leaves: whether each choice is in one of 24 slots or omitted; if so, the counts
pub record Counted (plan : List ℕ) (fits : Bool) (sizes : List ℕ) : Type 0 where
  pub answer : fits ≡ all_of (cell_fits 24) plan
  pub counted : fits ≡ true → Sizes plan sizes
