use mathlib.Core.Path.{◌≡◌}
use borrow.Author.Rules.{rules}
use Rattle.list_rule_slots.proofs.StepLaws.{each_none, each_more, limit-done, limit_spared}
use Rattle.list_rule_slots.proofs.limits.narrow_each.Goals as goal

pub returns-then-is_slack : goal.returns-then-is_slack
returns-then-is_slack c =
    let p = c.requires in
    let s = c.slot_counts-slot_counts.ensures in
    limit_spared _ _ _ _ _ _ p.0 p.1 p.2 s.0 s.1 c.fits-domains c.is_slack.ensures c.if-is_slack.true

pub loop-choice-init : goal.loop-choice-init
loop-choice-init c =
    each_none _ _

pub loop-choice-preserved : goal.loop-choice-preserved
loop-choice-preserved c =
    each_more _ _ _ _ _ c.loop-choice.invariant c.limit_leaves.ensures

pub returns : goal.returns
returns c =
    let p = c.requires in
    let s = c.slot_counts-slot_counts.ensures in
    let e : c.loop-choice.choice ≡ c.args.counts.choices = search rules in
    limit-done _ _ _ _ _ _ p.0 p.1 p.2 s.0 s.1 (rw e at c.loop-choice.invariant)
