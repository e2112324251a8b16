-- The loop's invariant: the tables passed are filled.
use Rattle.list_tables.specs.steps.Tables.{FirstFilled}
use Rattle.list_tables.proofs.fill.fill_each.Given as goal

abbrev pub invariant-loop-table : goal.invariant-loop-table
invariant-loop-table l =
    FirstFilled l.day.counts l.day.maxs.now l.initial.tables l.table l.tables
