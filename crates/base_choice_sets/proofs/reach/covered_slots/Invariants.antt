-- The loop's invariant: the slots looked at are counted.
use mathlib.Core.Path.{◌≡◌}
use Prim.Native.Nat.{◌≤◌}
use lib.ListN.{take}
use Rattle.std.specs.List.{count_by}
use Rattle.base_choice_sets.specs.Sets.{meets}
use Rattle.base_choice_sets.proofs.reach.covered_slots.Given as goal

abbrev pub invariant-loop-slot : goal.invariant-loop-slot
invariant-loop-slot l =
    (l.covered ≤ l.slot-index) × (l.covered ≡ count_by (λ slot. meets slot l.set) (take l.slot-index l.slots))
