-- The loop's invariant: the answer from here is the answer from the start.
use mathlib.Core.Path.{◌≡◌}
use lib.ListN.{drop}
use Rattle.base_lists.specs.Keep.{any_of}
use Rattle.reduce_turn.specs.Turn.{clashes_at}
use Rattle.reduce_turn.proofs.turn.clashes.Given as goal

abbrev pub invariant-loop-row : goal.invariant-loop-row
invariant-loop-row l = any_of clashes_at l.rows ≡ any_of clashes_at (drop l.row-index l.rows)
