-- The loop's invariant: the tables passed are filled.
use Rattle.list_tables.specs.steps.Filling.{FirstFilled}
use Rattle.list_tables.proofs.lightest_fill.fill_each.Given as goal

abbrev pub invariant-loop-table : goal.invariant-loop-table
invariant-loop-table l =
    FirstFilled l.choices l.initial.tables l.table l.tables
