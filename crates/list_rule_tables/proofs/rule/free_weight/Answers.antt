-- Free or not.
use native.Mathlib.Omega.{arith}
use Rattle.list_tables.specs.steps.Tables.{weight_at}
use Rattle.list_rule_tables.proofs.RuleLaws.{weight_none, weight_some}
use Rattle.list_rule_tables.proofs.rule.free_weight.Goals as goal

pub returns-then-not-free : goal.returns-then-not-free
returns-then-not-free c =
    (weight_none c.args.free (weight_at c.args.tables.now c.args.table c.args.choice) (c.if-not-free.true), omega arith)

pub returns : goal.returns
returns c =
    (weight_some c.args.free _ _ (c.if-not-free.false) c.weight_at.ensures.0, c.weight_at.ensures.1)
