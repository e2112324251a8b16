-- The loop's invariant: what the slots passed leave of the domain.
use mathlib.Core.Path.{◌≡◌}
use mathlib.Core.Bool.{true}
use Prim.Native.Nat.{◌-◌, ◌≤◌, ◌<◌}
use Rattle.base_choice_sets.specs.Sets.{has}
use Rattle.list_rule_slots.specs.steps.SlotRules.{slots_leave}
use Rattle.list_rule_slots.specs.steps.SumsLent.{must, may}
use Rattle.list_rule_slots.proofs.sums.slots_leave.Given as goal

abbrev pub invariant-loop-slot : goal.invariant-loop-slot
invariant-loop-slot l =
    (l.slot ≤ l.counts.slots) × (l.left ≡ slots_leave l.counts.choosers (must l.sums) (may l.sums) l.least l.most l.slot l.domain) × (l.slot < l.counts.slots → has l.domain l.slot ≡ true)

abbrev pub decreases-loop-slot : goal.decreases-loop-slot
decreases-loop-slot l =
    l.counts.slots - l.slot
