use mathlib.Core.Path.{refl}
use Rattle.search.proofs.OrderSteps.{counted_start, counted_next, counted-done}
use Rattle.search.proofs.order.count_rows.Goals as goal

pub loop-choice-init : goal.loop-choice-init
loop-choice-init c = counted_start _ _ _ refl

pub loop-choice-preserved : goal.loop-choice-preserved
loop-choice-preserved c = counted_next _ _ _ _ c.loop-choice-test.true c.loop-choice.invariant c.count_of.ensures

pub returns : goal.returns
returns c = counted-done _ _ c.loop-choice.choice _ c.loop-choice-test.false c.loop-choice.invariant
