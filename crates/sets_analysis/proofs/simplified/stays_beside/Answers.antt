-- The three ways out: not covered; of another level; by whether it has the same choices.
use mathlib.Core.Path.{sym, ◌∙◌}
use Rattle.sets_analysis.proofs.KeptSteps.{stays_uncovered, stays-other, stays_same}
use Rattle.sets_analysis.proofs.simplified.stays_beside.Goals as goal

pub returns-then-not-is_covered_by : goal.returns-then-not-is_covered_by
returns-then-not-is_covered_by c =
    stays_uncovered _ _ _ _ (sym c.is_covered_by.ensures ∙ c.if-not-is_covered_by.true)

pub returns-then-here_level-level : goal.returns-then-here_level-level
returns-then-here_level-level c =
    stays-other _ _ _ _ (sym c.is_covered_by.ensures ∙ c.if-not-is_covered_by.false) c.if-here_level-level.true

pub returns : goal.returns
returns c =
    stays_same _ _ _ _ (sym c.is_covered_by.ensures ∙ c.if-not-is_covered_by.false) c.if-here_level-level.false c.is_same.ensures
