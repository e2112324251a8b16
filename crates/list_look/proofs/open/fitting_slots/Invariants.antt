-- The loop's invariant: the slots passed that fit.
use mathlib.Core.Path.{◌≡◌}
use Rattle.base_choice_sets.specs.Sets.{set_of}
use Rattle.list_look.specs.steps.Slots.{slot_fits}
use Rattle.list_look.proofs.open.fitting_slots.Given as goal

abbrev pub invariant-loop-slot : goal.invariant-loop-slot
invariant-loop-slot l =
    l.found ≡ set_of l.slot (slot_fits l.next.choosers l.next.least l.next.sums.now.mins l.next.domain)
