-- Its one place is past the slots, or is the only one that is added to.
use native.Mathlib.Omega.{arith}
use Rattle.list_rule_slots.proofs.SumLaws.{settled-past, settled_in, small_at}
use borrow.Author.Rules.{rules}
use Rattle.list_rule_slots.proofs.slot_sums.add_settled.Goals as goal

pub returns-then-slots-slot : goal.returns-then-slots-slot
returns-then-slots-slot c =
    let p = c.requires in
    settled-past _ _ _ p.0 (search rules) p.1 c.lowest_place-slot.ensures _ _ _ _ c.if-slots-slot.true

pub overflow_add-sums : goal.overflow_add-sums
overflow_add-sums c =
    let p = c.requires in
    omega (arith, p.2, small_at _ _ _ p.4.0 c.if-slots-slot.false)

pub overflow_add-sums-2 : goal.overflow_add-sums-2
overflow_add-sums-2 c =
    let p = c.requires in
    omega (arith, p.3, small_at _ _ _ p.4.1 c.if-slots-slot.false)

pub returns : goal.returns
returns c =
    let p = c.requires in
    settled_in _ _ _ p.0 (search rules) p.1 c.lowest_place-slot.ensures _ _ _ _ c.if-slots-slot.false
