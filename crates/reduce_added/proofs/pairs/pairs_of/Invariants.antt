-- The loop's invariant: what is left to store gives what was to store.
use mathlib.Core.Path.{◌≡◌}
use lib.ListN.{drop}
use Rattle.base_lists.proofs.Stores.{Stores}
use Rattle.reduce_added.specs.Pairs.{pairs_of}
use Rattle.reduce_added.proofs.pairs.pairs_of.Given as goal

abbrev pub invariant-loop-i : goal.invariant-loop-i
invariant-loop-i l =
    (l.free.rows.ghost_name ≡ l.initial.free.rows.ghost_name) × Stores l.initial.free.rows.now l.initial.free.at (pairs_of l.list) l.free.rows.now l.free.at (pairs_of (drop l.i l.list))
