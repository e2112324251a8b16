-- The loop's invariant: what is left to store gives what was to store.
use mathlib.Core.Path.{◌≡◌}
use mathlib.Core.List.{map}
use lib.ListN.{drop}
use Rattle.base_lists.proofs.Stores.{Stores}
use Rattle.reduce_added.specs.Pairs.{pair_row}
use Rattle.reduce_added.proofs.pairs.pairs_with.Given as goal

abbrev pub invariant-loop-right : goal.invariant-loop-right
invariant-loop-right l =
    (l.free.rows.ghost_name ≡ l.initial.free.rows.ghost_name) × Stores l.initial.free.rows.now l.initial.free.at (map (pair_row l.left) l.list) l.free.rows.now l.free.at (map (pair_row l.left) (drop l.right-index l.list))
