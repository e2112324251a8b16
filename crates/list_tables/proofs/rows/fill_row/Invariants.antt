-- The loop's invariant: the first entries of the row are written, by the row after it as it was.
use mathlib.Core.Path.{◌≡◌}
use Rattle.list_tables.specs.steps.Tables.{written, next_entry}
use Rattle.list_tables.proofs.rows.fill_row.Given as goal

abbrev pub invariant-loop-lack : goal.invariant-loop-lack
invariant-loop-lack l =
    l.tables ≡ written l.lack l.at (next_entry l.width l.initial.tables l.at l.weight l.most) l.initial.tables
