use mathlib.Core.Path.{◌≡◌}
use native.Mathlib.Omega.{arith}
use Rattle.list_rule_slots.proofs.SumLaws.{free-start, free_more, free-small}
use Rattle.list_rule_slots.proofs.slot_sums.add_free.Goals as goal

pub loop-slot-init : goal.loop-slot-init
loop-slot-init c =
    let n = c.next_member-slot.ensures in
    (n.under, free-start _ _ _ _ _ n, n.found)

pub overflow_add-mays : goal.overflow_add-mays
overflow_add-mays c =
    omega (arith, c.requires.1, free-small _ _ _ _ _ _ c.loop-slot.invariant.1 c.requires.2 c.loop-slot-test.true)

pub next_member-slot-requires-in-loop-slot : goal.next_member-slot-requires-in-loop-slot
next_member-slot-requires-in-loop-slot c =
    (c.requires.0, omega (arith, c.loop-slot-test.true))

pub loop-slot-smaller : goal.loop-slot-smaller
loop-slot-smaller c =
    omega (arith, c.next_member-slot-in-loop-slot.ensures.after, c.loop-slot-test.true)

pub loop-slot-preserved : goal.loop-slot-preserved
loop-slot-preserved c =
    let n = c.next_member-slot-in-loop-slot.ensures in
    let i = c.loop-slot.invariant in
    (n.under, free_more _ _ _ _ _ _ _ i.1 (i.2 c.loop-slot-test.true) n, n.found)

pub returns : goal.returns
returns c =
    let e : c.loop-slot.slot ≡ c.args.slots = omega (arith, c.loop-slot-test.false, c.loop-slot.invariant.0) in
    rw e at c.loop-slot.invariant.1
