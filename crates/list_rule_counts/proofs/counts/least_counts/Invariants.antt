-- The loop's invariant: the counts of the slots passed.
use mathlib.Core.Path.{◌≡◌}
use lib.ListN.{replicate}
use Rattle.list_tables.specs.steps.Tables.{entry_at, written}
use Rattle.list_rule_counts.specs.steps.Figures.{fewest_in}
use Rattle.list_rule_counts.proofs.counts.least_counts.Given as goal

abbrev pub invariant-loop-slot : goal.invariant-loop-slot
invariant-loop-slot l =
    l.least ≡ written l.slot 0 (fewest_in (entry_at l.figures.tables.now) l.from l.figures.lacks.now l.settled) (replicate 24 0)
