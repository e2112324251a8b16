use mathlib.Core.Path.{◌≡◌}
use native.Mathlib.Omega.{arith}
use Rattle.list_rule_counts.proofs.RoomLaws.{rooms_start, rooms_step}
use Rattle.list_rule_counts.proofs.rooms.narrow_by_rooms.Goals as goal

pub loop-slot-init : goal.loop-slot-init
loop-slot-init c =
    rooms_start _ _ _ _ _ _ _ _

pub loop-slot-preserved : goal.loop-slot-preserved
loop-slot-preserved c =
    rooms_step _ _ _ _ _ _ _ _ _ _ _ c.loop-slot.invariant c.narrow_slot.ensures

pub returns : goal.returns
returns c =
    let e : c.loop-slot.slot ≡ c.args.day.now.counts.slots = omega (arith, c.loop-slot-test.false, c.loop-slot.auto.slot-end) in rw e at c.loop-slot.invariant
