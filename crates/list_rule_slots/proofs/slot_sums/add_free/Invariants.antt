-- The loop's invariant: the amount is added in each slot passed that the domain has.
use mathlib.Core.Path.{◌≡◌}
use mathlib.Core.Bool.{true}
use Prim.Native.Nat.{◌-◌, ◌≤◌, ◌<◌}
use Rattle.base_choice_sets.specs.Sets.{has}
use Rattle.list_rule_slots.specs.steps.Sums.{added_to}
use Rattle.list_rule_slots.proofs.slot_sums.add_free.Given as goal

abbrev pub invariant-loop-slot : goal.invariant-loop-slot
invariant-loop-slot l =
    (l.slot ≤ l.slots) × (l.mays ≡ added_to l.slot (has l.domain) l.most l.initial.mays) × (l.slot < l.slots → has l.domain l.slot ≡ true)

abbrev pub decreases-loop-slot : goal.decreases-loop-slot
decreases-loop-slot l =
    l.slots - l.slot
