-- No two outcomes fit what this crate's public functions promise (those of `sentences` and `plan`:
-- `RowOutcomes`), and where check_plan answers, is_feasible gives the same answer.
use mathlib.Core.Path.{◌≡◌, ◌∙◌}
use mathlib.Core.Bool.{Bool}
use mathlib.Core.List.{List}
use Prim.Native.Nat.{ℕ}
use Rattle.base_lists.specs.All.{all_of}
use Rattle.base_lists.proofs.Outcome.{no_two}
use Rattle.day_rows.specs.Told.{done, tells}
use Rattle.day_rows.proofs.ToldLaws.{one_told, then_done, done-is}
use Rattle.std.specs.Prelude.{Result}
use Rattle.day_rows.specs.declared.refusal.Refusal.{Refusal}
use Rattle.plan_check.specs.Day.{Day}
use Rattle.plan_check.specs.Feasible.{feasible, is_feasible}
use Rattle.plan_check.specs.steps.Kept.{keeps_every}
use Rattle.plan_check.specs.Check.{cell_fits, plan_judged, plan_check_of}
use Rattle.plan_check.proofs.CheckLaws.{worker-judged}

module _ (day : Day) (plan : List ℕ) where
  -- no two outcomes fit what check_plan promises
  pub check-settled : {a b : Result Bool Refusal} → tells a ≡ plan_check_of day plan → tells b ≡ plan_check_of day plan → a ≡ b
  check-settled = one_told

  -- no two outcomes fit what is_feasible promises
  pub worker-settled : {a b : Bool} → a ≡ is_feasible day plan → b ≡ is_feasible day plan → a ≡ b
  worker-settled = no_two

  -- what check_plan calls feasible or not, is_feasible does
  pub worker-says : (answer : Bool) → plan_check_of day plan ≡ done answer → is_feasible day plan ≡ answer
  unfolding plan_check_of
  worker-says answer h =
      let d = then_done (plan_judged day plan) (done (feasible day plan)) h in
      worker-judged day plan d.0 ∙ done-is d.1

-- no two outcomes fit what cells_fit promises
pub one-cells-fit : (slots : ℕ) (plan : List ℕ) {a b : Bool} → a ≡ all_of (cell_fits slots) plan → b ≡ all_of (cell_fits slots) plan → a ≡ b
one-cells-fit slots plan = no_two

-- no two outcomes fit what keeps_every_row promises
pub one_keeping : (plan rows : List ℕ) {a b : Bool} → a ≡ keeps_every plan rows → b ≡ keeps_every plan rows → a ≡ b
one_keeping plan rows = no_two
