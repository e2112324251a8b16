-- The loop's invariant: the rows from the choice on are least weights.
use Rattle.list_tables.specs.steps.Tables.{Filling}
use Rattle.list_tables.proofs.fill.fill_table.Given as goal

abbrev pub invariant-loop-from : goal.invariant-loop-from
invariant-loop-from l =
    Filling l.fn.day.counts l.maxs l.initial.tables l.table l.from l.tables
