-- The loop's invariant: every number so far names a row.
use mathlib.Core.Path.{◌≡◌}
use mathlib.Core.Bool.{true}
use Rattle.base_lists.specs.Below.{all_below}
use lib.Dec.{ltb}
use lib.ListN.{get_or}
use Rattle.search_map.proofs.map.numbers_fit.Given as goal

abbrev pub invariant-loop-i : goal.invariant-loop-i
invariant-loop-i l =
    all_below l.i (λ k. ltb (get_or l.numbers k 0) l.rows) ≡ true
