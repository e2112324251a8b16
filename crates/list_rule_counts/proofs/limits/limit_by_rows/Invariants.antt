-- The loop's invariant: what the rows that are left make of the counts is what all make of the first ones.
use mathlib.Core.Path.{◌≡◌}
use lib.ListN.{drop}
use Rattle.list_rule_counts.specs.steps.CountRule.{raised_by, lowered_by, limits_change}
use Rattle.list_rule_counts.proofs.limits.limit_by_rows.Given as goal

abbrev pub invariant-loop-number : goal.invariant-loop-number
invariant-loop-number l =
    (limits_change raised_by (drop l.number-index l.rows) l.least ≡ limits_change raised_by l.rows l.initial.least) × (limits_change lowered_by (drop l.number-index l.rows) l.under ≡ limits_change lowered_by l.rows l.initial.under)
