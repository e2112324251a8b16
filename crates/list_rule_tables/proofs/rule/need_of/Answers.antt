use Rattle.list_rule_tables.proofs.RuleLaws.{needed-start, needed-step}
use mathlib.Core.Path.{◌≡◌}
use native.Mathlib.Omega.{arith}
use Rattle.list_rule_tables.proofs.rule.need_of.Goals as goal

pub loop-slot-init : goal.loop-slot-init
loop-slot-init c =
    (omega arith, needed-start _ _ _ _ _ _)

pub overflow_add-need : goal.overflow_add-need
overflow_add-need c =
    omega (arith, c.loop-slot.invariant.0, c.slot_needs-need.ensures.1, c.loop-slot-test.true, c.requires)

pub loop-slot-preserved : goal.loop-slot-preserved
loop-slot-preserved c =
    (omega (arith, c.loop-slot.invariant.0, c.slot_needs-need.ensures.1), needed-step _ _ _ _ _ _ _ _ _ c.loop-slot.invariant.1 c.slot_needs-need.ensures.0)

pub returns : goal.returns
returns c =
    let e : c.loop-slot.slot ≡ c.args.slots = omega (arith, c.loop-slot-test.false, c.loop-slot.auto.slot-end) in (rw e at c.loop-slot.invariant.1, omega (arith, e, c.loop-slot.invariant.0, c.requires))
