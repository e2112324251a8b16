use mathlib.Core.Path.{sym, ◌∙◌}
use Rattle.sets_analysis.proofs.PoolSteps.{sets-within, sets-past, sets-at}
use Rattle.sets_analysis.proofs.BoundSteps.{lowers-start, lowers-past, lowers-small, lowers-large, lowers-done, above-told, small, large}
use Rattle.sets_analysis.proofs.bound.lowers_bound.Goals as goal

pub loop-i-init : goal.loop-i-init
loop-i-init c = lowers-start _ _ _

pub loop-i-preserved-then-not-is_at_or_above : goal.loop-i-preserved-then-not-is_at_or_above
loop-i-preserved-then-not-is_at_or_above c =
    lowers-past _ _ _ _ _ _ (sets-within _ _ _ _ c.loop-i-test.true) (sets-at _ _ _ _ c.loop-i-test.true) c.loop-i.invariant (above-told _ _ _ (sym c.is_at_or_above.ensures ∙ c.if-not-is_at_or_above.true))

pub returns-then-size-slots : goal.returns-then-size-slots
returns-then-size-slots c =
    lowers-small _ _ _ _ _ _ (sets-within _ _ _ _ c.loop-i-test.true) (sets-at _ _ _ _ c.loop-i-test.true) c.loop-i.invariant (above-told _ _ _ (sym c.is_at_or_above.ensures ∙ c.if-not-is_at_or_above.false)) (small _ _ _ _ c.size.ensures c.if-size-slots.true)

pub loop-i-preserved : goal.loop-i-preserved
loop-i-preserved c =
    lowers-large _ _ _ _ _ _ (sets-within _ _ _ _ c.loop-i-test.true) (sets-at _ _ _ _ c.loop-i-test.true) c.loop-i.invariant (above-told _ _ _ (sym c.is_at_or_above.ensures ∙ c.if-not-is_at_or_above.false)) (large _ _ _ _ c.size.ensures c.if-size-slots.false)

pub returns : goal.returns
returns c = lowers-done _ _ _ _ _ (sets-past _ _ _ _ c.loop-i-test.false) c.loop-i.invariant
