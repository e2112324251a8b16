-- The loop's invariant: the slots passed that want some.
use mathlib.Core.Path.{◌≡◌}
use lib.Dec.{ltb}
use lib.ListN.{get_or}
use Rattle.base_choice_sets.specs.Sets.{set_of}
use Rattle.list_rule_counts.proofs.wants.needy_slots.Given as goal

abbrev pub invariant-loop-slot : goal.invariant-loop-slot
invariant-loop-slot l =
    l.set ≡ set_of l.slot (λ s. ltb 0 (get_or l.wants s 0))
