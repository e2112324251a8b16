-- The loop's invariant: every level before the last one met is under the next.
use mathlib.Core.Path.{◌≡◌}
use mathlib.Core.Bool.{true}
use Prim.Native.Nat.{◌+◌, ◌-◌, ◌≤◌}
use lib.Dec.{ltb}
use lib.ListN.{length, get_or}
use Rattle.base_lists.specs.Below.{all_below}
use Rattle.day_rows.proofs.lists.levels_rise.Given as goal

abbrev pub invariant-loop-i : goal.invariant-loop-i
invariant-loop-i l =
    (l.i - 1 ≤ length l.levels - 1) × (all_below (l.i - 1) (λ k. ltb (get_or l.levels k 0) (get_or l.levels (k + 1) 0)) ≡ true)
