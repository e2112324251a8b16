-- The loop's invariant: every slot passed fits, as the lists have its sums.
use mathlib.Core.Path.{◌≡◌}
use mathlib.Core.Bool.{true}
use Prim.Native.Nat.{◌≤◌}
use Rattle.base_lists.specs.Below.{all_below}
use Rattle.plan_check.specs.steps.Sums.{listed_fits}
use Rattle.plan_check.proofs.feasible.slots_fit.Given as goal

abbrev pub invariant-loop-slot : goal.invariant-loop-slot
invariant-loop-slot l =
    (l.slot ≤ l.slots) × (all_below l.slot (listed_fits l.choosers l.slot_min l.slot_max) ≡ true)
