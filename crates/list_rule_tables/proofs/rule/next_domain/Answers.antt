-- Free or not.
use Rattle.list_tables.specs.steps.Tables.{weight_at}
use Rattle.list_rule_tables.specs.steps.Lent.{places_by}
use Rattle.list_rule_tables.proofs.RuleLaws.{next-same, next-left}
use Rattle.list_rule_tables.proofs.rule.next_domain.Goals as goal

pub returns-then-not-free : goal.returns-then-not-free
returns-then-not-free c =
    let a = c.args in next-same a.free (places_by a.one.now a.weighed.now a.slots (weight_at a.one.now.tables.now a.one.now.table a.choice) a.most a.domain) a.domain (c.if-not-free.true)

pub returns : goal.returns
returns c =
    next-left _ _ c.args.free _ _ _ _ _ _ _ _ _ _ _ _ _ (c.if-not-free.false) c.weight_at-weight.ensures.0 c.from.ensures c.left_of.ensures
