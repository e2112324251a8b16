-- The loop's invariant: what the rows that are left make of the domains is what all make of the first ones.
use mathlib.Core.Path.{◌≡◌}
use lib.ListN.{drop}
use Rattle.list_rule_rows.specs.steps.RowsRule.{rows_rule}
use Rattle.list_rule_rows.proofs.rows.narrow_by_rows.Given as goal

abbrev pub invariant-loop-number : goal.invariant-loop-number
invariant-loop-number l = rows_rule l.counts (drop l.number-index l.day.rows.now) l.domains ≡ rows_rule l.counts l.day.rows.now l.initial.domains
