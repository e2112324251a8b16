use native.Mathlib.Omega.{arith}
use Rattle.list_decided.proofs.LeavesLaws.{rows_start, rows-turn, rows_all, rows-done}
use Rattle.list_decided.proofs.leaves.rows_leave.Goals as goal

pub loop-i-init : goal.loop-i-init
loop-i-init c = (omega arith, rows_start _ _ _ _)

pub returns-then-front-i : goal.returns-then-front-i
returns-then-front-i c = rows-done _ _ _ _ _ _ _ _ c.loop-i.invariant.0 c.if-front-i.true c.loop-i.invariant.1

pub loop-i-preserved : goal.loop-i-preserved
loop-i-preserved c =
    (omega (arith, c.if-front-i.false), rows-turn _ _ _ _ _ _ _ _ c.loop-i-test.true c.loop-i.invariant.1 c.row_leaves-left.ensures)

pub returns : goal.returns
returns c = rows_all _ _ _ _ _ _ _ _ c.loop-i-test.false c.loop-i.invariant.0 c.loop-i.invariant.1
