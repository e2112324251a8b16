-- The loop's invariant: the tables passed have narrowed the domains.
use mathlib.Core.Path.{◌≡◌}
use Rattle.list_rule_tables.specs.steps.Lent.{tables_by}
use Rattle.list_rule_tables.proofs.rule.narrow_each.Given as goal

abbrev pub invariant-loop-table : goal.invariant-loop-table
invariant-loop-table l =
    l.domains ≡ tables_by l.figures l.wants l.day.counts l.day.maxs.now l.from l.table l.initial.domains
