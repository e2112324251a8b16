-- The loop's invariant: every entry so far ends within the count.
use mathlib.Core.Path.{◌≡◌}
use mathlib.Core.Bool.{true}
use Rattle.base_lists.specs.Below.{all_below}
use Rattle.search_map.specs.Map.{map_lent, entry_fits}
use Rattle.search_map.proofs.map.entries_fit.Given as goal

abbrev pub invariant-loop-choice : goal.invariant-loop-choice
invariant-loop-choice l =
    all_below l.choice (entry_fits l.count (map_lent l.map)) ≡ true
