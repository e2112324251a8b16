use mathlib.Core.Path.{sym, ◌∙◌}
use Rattle.sets_analysis.specs.Kept.{no_set}
use Rattle.sets_analysis.proofs.DaySteps.{any_start, any_found, any_next, any_never}
use Rattle.sets_analysis.proofs.PoolSteps.{sets-within, sets-past, sets-at}
use Rattle.sets_analysis.proofs.kept.is_covered.Goals as goal

pub loop-i-init : goal.loop-i-init
loop-i-init c = any_start _ _

pub returns-then-is_covered_by : goal.returns-then-is_covered_by
returns-then-is_covered_by c =
    any_found _ _ _ no_set _ c.loop-i.invariant (sets-within _ _ _ _ c.loop-i-test.true) (sets-at _ _ _ _ c.loop-i-test.true) (sym c.is_covered_by.ensures ∙ c.if-is_covered_by.true)

pub loop-i-preserved : goal.loop-i-preserved
loop-i-preserved c =
    any_next _ _ _ no_set _ c.loop-i.invariant (sets-within _ _ _ _ c.loop-i-test.true) (sets-at _ _ _ _ c.loop-i-test.true) (sym c.is_covered_by.ensures ∙ c.if-is_covered_by.false)

pub returns : goal.returns
returns c = any_never _ _ _ c.loop-i.invariant (sets-past _ _ _ _ c.loop-i-test.false)
