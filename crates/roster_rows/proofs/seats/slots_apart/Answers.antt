use mathlib.Core.Path.{refl}
use Rattle.roster_rows.proofs.ApartLaws.{meeting_start, meeting_again, meeting_next, meeting_done}
use Rattle.roster_rows.proofs.seats.slots_apart.Goals as goal

pub loop-cell-init : goal.loop-cell-init
loop-cell-init c =
    meeting_start _ _ _ refl

pub returns-then-met-slot : goal.returns-then-met-slot
returns-then-met-slot c =
    meeting_again _ _ _ _ c.loop-cell.invariant c.loop-cell-test.true _ c.slot_at-slot.ensures.0 c.if-met-slot.true

pub loop-cell-preserved : goal.loop-cell-preserved
loop-cell-preserved c =
    meeting_next _ _ _ _ c.loop-cell.invariant c.loop-cell-test.true _ c.slot_at-slot.ensures.0 c.slot_at-slot.ensures.1 c.if-met-slot.false

pub returns : goal.returns
returns c =
    meeting_done _ _ _ _ c.loop-cell.invariant c.loop-cell-test.false
