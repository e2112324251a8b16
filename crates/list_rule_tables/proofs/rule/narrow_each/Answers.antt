use mathlib.Core.Path.{◌≡◌, refl}
use native.Mathlib.Omega.{arith}
use Rattle.list_rule_tables.specs.steps.Rule.{tables_below}
use Rattle.list_rule_tables.proofs.RuleLaws.{each_step}
use Rattle.list_rule_tables.proofs.rule.narrow_each.Goals as goal

pub loop-table-init : goal.loop-table-init
unfolding tables_below
loop-table-init c =
    refl

pub loop-table-preserved : goal.loop-table-preserved
loop-table-preserved c =
    each_step _ _ _ _ _ _ _ _ _ _ _ _ _ c.loop-table.invariant c.narrow_once.ensures

pub returns : goal.returns
returns c =
    let e : c.loop-table.table ≡ 4 = omega (arith, c.loop-table-test.false, c.loop-table.auto.table-end) in rw e at c.loop-table.invariant
