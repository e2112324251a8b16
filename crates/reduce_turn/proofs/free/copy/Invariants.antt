-- The loop's invariant: what is left to store gives what was to store.
use lib.ListN.{drop}
use Rattle.base_lists.proofs.Stores.{Stores}
use Rattle.reduce_turn.proofs.free.copy.Given as goal

abbrev pub invariant-loop-i : goal.invariant-loop-i
invariant-loop-i l = Stores l.initial.free 0 l.rows l.free l.i (drop l.i l.rows)
