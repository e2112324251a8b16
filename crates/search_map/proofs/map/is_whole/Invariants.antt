-- The loop's invariant: the list so far is 0, 1, 2 ..
use mathlib.Core.Path.{◌≡◌}
use mathlib.Core.Bool.{true}
use lib.Dec.{eqb}
use lib.ListN.{get_or}
use Rattle.base_lists.specs.Below.{all_below}
use Rattle.search_map.proofs.map.is_whole.Given as goal

abbrev pub invariant-loop-i : goal.invariant-loop-i
invariant-loop-i l =
    all_below l.i (λ k. eqb (get_or l.whole k 0) k) ≡ true
