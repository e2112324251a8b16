use mathlib.Core.Path.{◌≡◌, refl}
use native.Mathlib.Omega.{arith}
use borrow.Author.Rules.{rules}
use Rattle.list_rule_slots.proofs.SumLaws.{sums_none, sums-small, sums-more}
use Rattle.list_rule_slots.proofs.slot_sums.add_choices.Goals as goal

pub loop-choice-init : goal.loop-choice-init
loop-choice-init c =
    let p = c.requires in
    sums_none _ _ _ _ p.1 _ _ p.4 p.5

pub add_choice-requires : goal.add_choice-requires
add_choice-requires c =
    let p = c.requires in
    let s = sums-small _ _ _ _ p.1 _ _ _ (omega (arith, p.0, c.loop-choice-test.true)) c.loop-choice.invariant in
    (p.1, omega (arith, c.from.ensures, c.type_inv.mins c.loop-choice.choice), omega (arith, c.from-in-loop-choice.ensures, c.type_inv.maxs c.loop-choice.choice), s)

pub loop-choice-preserved : goal.loop-choice-preserved
loop-choice-preserved c =
    let p = c.requires in
    sums-more _ _ _ _ p.1 _ _ _ _ _ _ _ _ c.loop-choice.invariant c.from.ensures (omega (arith, c.from.ensures, c.type_inv.mins c.loop-choice.choice)) c.from-in-loop-choice.ensures (omega (arith, c.from-in-loop-choice.ensures, c.type_inv.maxs c.loop-choice.choice)) refl c.add_choice.ensures.0 c.add_choice.ensures.1

pub returns : goal.returns
returns c =
    let e : c.loop-choice.choice ≡ c.args.day.now.counts.choices = search rules in
    rw e at c.loop-choice.invariant
