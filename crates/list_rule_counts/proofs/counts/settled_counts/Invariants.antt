-- The loop's invariant: how many of the choices passed are settled in each slot.
use mathlib.Core.Path.{◌≡◌}
use lib.ListN.{replicate}
use Rattle.list_tables.specs.steps.Tables.{written}
use Rattle.list_rule_tables.specs.steps.Figures.{free_of}
use Rattle.list_rule_counts.specs.steps.CountRule.{settled_count}
use Rattle.list_rule_counts.proofs.counts.settled_counts.Given as goal

abbrev pub invariant-loop-domain : goal.invariant-loop-domain
invariant-loop-domain l =
    l.settled ≡ written l.slots 0 (settled_count l.domain-index (free_of l.choices l.domains) l.domains) (replicate 24 0)
