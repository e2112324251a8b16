-- The loop's invariant: the first entries of the row are written.
use mathlib.Core.Path.{◌≡◌}
use Rattle.list_tables.specs.steps.Weights.{last_entry}
use Rattle.list_tables.specs.steps.Tables.{written}
use Rattle.list_tables.proofs.rows.fill_last.Given as goal

abbrev pub invariant-loop-lack : goal.invariant-loop-lack
invariant-loop-lack l =
    l.tables ≡ written l.lack l.at last_entry l.initial.tables
