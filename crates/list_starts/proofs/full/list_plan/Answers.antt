-- A full start: no plan more, or one.
use mathlib.Core.Path.{sym, ◌∙◌}
use Rattle.list_starts.proofs.FullLaws.{not-passed, has-passed}
use Rattle.list_starts.proofs.full.list_plan.Goals as goal

pub returns-then-not-is_feasible : goal.returns-then-not-is_feasible
returns-then-not-is_feasible c =
    not-passed _ _ _ _ _ (sym c.is_feasible.ensures ∙ c.if-not-is_feasible.true)

pub returns : goal.returns
returns c =
    has-passed _ _ _ _ _ (sym c.is_feasible.ensures ∙ c.if-not-is_feasible.false) c.number_plan.ensures.0 c.number_plan.ensures.1
