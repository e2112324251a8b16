-- The loop's invariant: the lacks by the choices passed.
use Rattle.list_tables.specs.steps.Tables.{written}
use Rattle.list_rule_tables.specs.steps.Figures.{free_of, lack_of}
use mathlib.Core.Path.{◌≡◌}
use lib.ListN.{replicate}
use Rattle.list_rule_tables.proofs.figures.each_lack.Given as goal

abbrev pub invariant-loop-choice : goal.invariant-loop-choice
invariant-loop-choice l =
    l.lacks ≡ written l.counts.slots 0 (lack_of l.choice l.counts.choosers l.maxs (free_of l.counts.choices l.domains) l.domains) (replicate 24 0)
