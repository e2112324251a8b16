-- The loop's invariant: it is the same end, and what is left to write gives what was to write.
use mathlib.Core.Path.{◌≡◌}
use Rattle.base_lists.proofs.Stores.{Each}
use Rattle.reduce_turn.specs.Turn.{turned_one}
use Rattle.reduce_turn.proofs.turn.write_turned.Given as goal

abbrev pub invariant-loop-row : goal.invariant-loop-row
invariant-loop-row l =
    (l.end.rows.ghost_name ≡ l.initial.end.rows.ghost_name) × Each turned_one l.rows l.initial.end.rows.now l.initial.end.at l.end.rows.now l.end.at l.row-index
