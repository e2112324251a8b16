-- No level over the bound lowers it; of the others those that do.
use mathlib.Core.Path.{sym, ◌∙◌}
use Rattle.sets_analysis.proofs.BoundSteps.{bound-low, bound-kept, bound_lowered}
use Rattle.sets_analysis.proofs.bound.lowered.Goals as goal

pub returns-then-bound-level : goal.returns-then-bound-level
returns-then-bound-level c = bound-low _ _ _ _ c.if-bound-level.true

pub returns-then-not-lowers_bound : goal.returns-then-not-lowers_bound
returns-then-not-lowers_bound c = bound-kept _ _ _ _ (sym c.lowers_bound.ensures ∙ c.if-not-lowers_bound.true)

pub returns : goal.returns
returns c =
    bound_lowered _ _ _ _ c.if-bound-level.false (sym c.lowers_bound.ensures ∙ c.if-not-lowers_bound.false)
