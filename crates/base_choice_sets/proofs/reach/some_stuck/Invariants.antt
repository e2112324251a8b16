-- The loop's invariant: no set looked at is stuck.
use mathlib.Core.Path.{◌≡◌}
use mathlib.Core.Bool.{false}
use Prim.Native.Nat.{ℕ, ◌<◌}
use lib.ListN.{get_or}
use Rattle.base_choice_sets.specs.Reach.{stuck}
use Rattle.base_choice_sets.proofs.reach.some_stuck.Given as goal

abbrev pub invariant-loop-set : goal.invariant-loop-set
invariant-loop-set l =
    (i : ℕ) → i < l.set-index → stuck l.slots l.undecided (get_or l.sets i 0) ≡ false
