use mathlib.Core.Path.{◌≡◌}
use native.Mathlib.Omega.{arith}
use Rattle.base_choice_sets.proofs.SetLaws.{set-start, set-step}
use Rattle.list_look.proofs.SlotLaws.{none-fit}
use Rattle.list_look.proofs.open.fitting_slots.Goals as goal

pub returns-then-next : goal.returns-then-next
returns-then-next c =
    none-fit _ _ _ _ _ c.if-next.true

pub loop-slot-init : goal.loop-slot-init
loop-slot-init c =
    set-start _

pub slot_fits-requires : goal.slot_fits-requires
slot_fits-requires c =
    (omega (arith, c.loop-slot-test.true, c.args.next.now.few), c.if-next.false)

pub loop-slot-preserved : goal.loop-slot-preserved
loop-slot-preserved c =
    set-step _ _ _ _ _ (omega (arith, c.loop-slot-test.true, c.args.next.now.few)) c.loop-slot.invariant c.slot_fits.ensures c.with_if-found.ensures

pub returns : goal.returns
returns c =
    let e : c.loop-slot.slot ≡ c.args.next.now.slots = omega (arith, c.loop-slot-test.false) in rw e at c.loop-slot.invariant
