use mathlib.Core.Path.{refl}
use native.Mathlib.Omega.{arith}
use Rattle.roster_rows.proofs.TallyLaws.{tallying_start, tallying_room, tallying_next, tallying_done}
use Rattle.roster_rows.proofs.cells.tally.Goals as goal

pub loop-cell-init : goal.loop-cell-init
loop-cell-init c =
    tallying_start _ _ refl

pub overflow_add-times : goal.overflow_add-times
overflow_add-times c =
    omega (arith, c.requires, tallying_room _ _ _ c.loop-cell.invariant c.from.result (omega arith))

pub loop-cell-preserved : goal.loop-cell-preserved
loop-cell-preserved c =
    tallying_next _ _ _ c.loop-cell.invariant c.loop-cell-test.true _ _ c.from.ensures (omega arith) refl

pub returns : goal.returns
returns c =
    tallying_done _ _ _ c.loop-cell.invariant c.loop-cell-test.false
