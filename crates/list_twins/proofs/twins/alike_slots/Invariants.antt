-- The loop's invariant: the slots passed that are alike.
use mathlib.Core.Path.{◌≡◌}
use Rattle.base_choice_sets.specs.Sets.{set_of}
use Rattle.list_twins.specs.steps.Alike.{alike}
use Rattle.list_twins.proofs.twins.alike_slots.Given as goal

abbrev pub invariant-loop-other : goal.invariant-loop-other
invariant-loop-other l =
    l.set ≡ set_of l.other (alike l.counts.choosers l.names l.slot_min l.slot_max l.slot)
