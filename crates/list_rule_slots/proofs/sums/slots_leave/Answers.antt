use borrow.Author.Rules.{rules}
use mathlib.Core.Path.{◌≡◌}
use native.Mathlib.Omega.{arith}
use Rattle.list_rule_slots.proofs.SumLaws.{leave_start, leave_next}
use Rattle.list_rule_slots.proofs.sums.slots_leave.Goals as goal

pub next_member-slot-requires : goal.next_member-slot-requires
next_member-slot-requires c =
    (c.requires.0, omega arith)

pub loop-slot-init : goal.loop-slot-init
loop-slot-init c =
    let n = c.next_member-slot.ensures in
    let p = c.requires in
    (n.under, leave_start _ _ _ _ _ _ p.0 p.2 _ (search rules) n, n.found)

pub next_member-slot-requires-in-loop-slot : goal.next_member-slot-requires-in-loop-slot
next_member-slot-requires-in-loop-slot c =
    (c.requires.0, omega (arith, c.loop-slot-test.true))

pub loop-slot-smaller : goal.loop-slot-smaller
loop-slot-smaller c =
    omega (arith, c.next_member-slot-in-loop-slot.ensures.after, c.loop-slot-test.true)

pub loop-slot-preserved : goal.loop-slot-preserved
loop-slot-preserved c =
    let n = c.next_member-slot-in-loop-slot.ensures in
    let i = c.loop-slot.invariant in
    let p = c.requires in
    (n.under, leave_next _ _ _ _ _ _ p.0 p.2 p.1 _ _ _ _ i.1 (i.2 c.loop-slot-test.true) c.slot_leaves-left.ensures n, n.found)

pub returns : goal.returns
returns c =
    let e : c.loop-slot.slot ≡ c.args.counts.slots = search rules in
    rw e at c.loop-slot.invariant.1
