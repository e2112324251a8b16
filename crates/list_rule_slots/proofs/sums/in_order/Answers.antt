use borrow.Author.Rules.{rules}
use mathlib.Core.Path.{◌≡◌, sym, ◌∙◌}
use Rattle.base_lists.proofs.Below.{all_more}
use Rattle.list_rule_slots.proofs.SumLaws.{order-none, order-fails, order-done}
use Rattle.list_rule_slots.proofs.sums.in_order.Goals as goal

pub loop-slot-init : goal.loop-slot-init
loop-slot-init c =
    order-none _

pub returns-then-not-between : goal.returns-then-not-between
returns-then-not-between c =
    order-fails _ _ _ _ _ c.loop-slot-test.true c.between.ensures (c.if-not-between.true)

pub loop-slot-preserved : goal.loop-slot-preserved
loop-slot-preserved c =
    all_more _ _ c.loop-slot.invariant (sym c.between.ensures ∙ c.if-not-between.false)

pub returns : goal.returns
returns c =
    let e : c.loop-slot.slot ≡ c.args.counts.slots = search rules in
    order-done _ _ _ _ e c.loop-slot.invariant
