-- The test of the level, then of the choices.
use mathlib.Core.Path.{sym, ◌∙◌}
use Rattle.sets_analysis.proofs.KeptSteps.{not_covered, covered_within}
use Rattle.sets_analysis.proofs.kept.is_covered_by.Goals as goal

pub returns-then-not-is_not_higher : goal.returns-then-not-is_not_higher
returns-then-not-is_not_higher c = not_covered _ _ _ _ (sym c.is_not_higher.ensures ∙ c.if-not-is_not_higher.true)

pub returns : goal.returns
returns c = covered_within _ _ _ _ (sym c.is_not_higher.ensures ∙ c.if-not-is_not_higher.false) c.is_within.ensures
