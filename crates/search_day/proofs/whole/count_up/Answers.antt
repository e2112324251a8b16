use native.Mathlib.Omega.{arith}
use Rattle.search_day.proofs.WholeSteps.{up_start, up_next, up_done}
use Rattle.search_day.proofs.whole.count_up.Goals as goal

pub loop-i-init : goal.loop-i-init
loop-i-init c = up_start _ _ c.requires (omega arith)

pub loop-i-preserved : goal.loop-i-preserved
loop-i-preserved c = up_next _ _ _ c.loop-i-test.true c.loop-i.invariant

pub returns : goal.returns
returns c = up_done _ c.loop-i.i _ c.loop-i-test.false c.loop-i.invariant
