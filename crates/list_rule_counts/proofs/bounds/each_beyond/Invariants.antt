-- The loop's invariant: what of the figures of the slots passed is left to the free choices.
use mathlib.Core.Path.{◌≡◌}
use lib.ListN.{replicate}
use Rattle.list_tables.specs.steps.Tables.{written}
use Rattle.list_rule_counts.specs.steps.Figures.{beyond_in}
use Rattle.list_rule_counts.proofs.bounds.each_beyond.Given as goal

abbrev pub invariant-loop-slot : goal.invariant-loop-slot
invariant-loop-slot l =
    l.left ≡ written l.slot 0 (beyond_in l.figures l.settled) (replicate 24 0)
