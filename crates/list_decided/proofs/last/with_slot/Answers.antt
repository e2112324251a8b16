-- The row names a slot of the day or none.
use Rattle.list_decided.proofs.LastLaws.{slot-past, slot_in_day}
use Rattle.list_decided.proofs.last.with_slot.Goals as goal

pub returns-then-slots-slot : goal.returns-then-slots-slot
returns-then-slots-slot c = slot-past _ _ _ c.if-slots-slot.true

pub returns : goal.returns
returns c = slot_in_day _ _ _ c.if-slots-slot.false
