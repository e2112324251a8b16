-- The loop's invariant: every preference looked at is at most the limit.
use mathlib.Core.Path.{◌≡◌}
use mathlib.Core.Bool.{true}
use lib.Dec.{leb}
use lib.ListN.{get_or}
use Rattle.base_lists.specs.Below.{all_below}
use Rattle.day_rows.proofs.lists.preferences_keep.Given as goal

abbrev pub invariant-loop-preference : goal.invariant-loop-preference
invariant-loop-preference l =
    all_below l.preference-index (λ k. leb (get_or l.preferences k 0) l.last) ≡ true
