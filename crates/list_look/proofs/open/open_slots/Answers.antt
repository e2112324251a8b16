use mathlib.Core.Path.{◌≡◌}
use native.Mathlib.Omega.{arith}
use Rattle.base_choice_sets.proofs.SetLaws.{set-start, set-step}
use Rattle.list_look.proofs.SlotLaws.{none_open}
use Rattle.list_look.proofs.open.open_slots.Goals as goal

pub returns-then-next : goal.returns-then-next
returns-then-next c =
    none_open _ _ _ _ _ _ _ _ _ _ _ c.if-next.true

pub loop-slot-init : goal.loop-slot-init
loop-slot-init c =
    set-start _

pub slot_open-requires : goal.slot_open-requires
slot_open-requires c =
    (omega (arith, c.loop-slot-test.true, c.args.next.now.few), c.requires.0, c.if-next.false, c.requires.1)

pub loop-slot-preserved : goal.loop-slot-preserved
loop-slot-preserved c =
    set-step _ _ _ _ _ (omega (arith, c.loop-slot-test.true, c.args.next.now.few)) c.loop-slot.invariant c.slot_open.ensures c.with_if-found.ensures

pub returns : goal.returns
returns c =
    let e : c.loop-slot.slot ≡ c.args.next.now.slots = omega (arith, c.loop-slot-test.false) in rw e at c.loop-slot.invariant
