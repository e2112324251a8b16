use mathlib.Core.Path.{◌≡◌}
use borrow.Author.Rules.{rules}
use Rattle.list_rule_slots.proofs.StepLaws.{each_none}
use Rattle.list_rule_slots.proofs.SumLaws.{left-more, left-done}
use Rattle.list_rule_slots.proofs.sums.narrow_each_choice.Goals as goal

pub in_order-ordered-requires : goal.in_order-ordered-requires
in_order-ordered-requires c =
    c.requires.1

pub loop-choice-init : goal.loop-choice-init
loop-choice-init c =
    each_none _ _

pub sums_leave-requires : goal.sums_leave-requires
sums_leave-requires c =
    (c.requires.1, c.in_order-ordered.ensures)

pub loop-choice-preserved : goal.loop-choice-preserved
loop-choice-preserved c =
    let a = c.args.day.now in
    left-more _ _ _ a.mins.now a.maxs.now c.args.domains.now _ _ _ _ _ c.loop-choice.invariant c.from.ensures c.from-in-loop-choice.ensures c.sums_leave.ensures

pub returns : goal.returns
returns c =
    let e : c.loop-choice.choice ≡ c.args.day.now.counts.choices = search rules in
    left-done _ _ _ _ _ _ _ _ e c.loop-choice.invariant
