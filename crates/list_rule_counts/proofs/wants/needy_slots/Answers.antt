use mathlib.Core.Path.{◌≡◌}
use native.Mathlib.Omega.{arith}
use Rattle.list_rule_counts.proofs.WantLaws.{needy-start, needy-step}
use Rattle.list_rule_counts.proofs.wants.needy_slots.Goals as goal

pub loop-slot-init : goal.loop-slot-init
loop-slot-init c =
    needy-start _

pub loop-slot-preserved : goal.loop-slot-preserved
loop-slot-preserved c =
    needy-step c.args.wants.now _ _ _ (omega (arith, c.loop-slot-test.true, c.requires)) c.loop-slot.invariant c.with_if-set.ensures

pub returns : goal.returns
returns c =
    let e : c.loop-slot.slot ≡ c.args.slots = omega (arith, c.loop-slot-test.false, c.loop-slot.auto.slot-end) in rw e at c.loop-slot.invariant
