-- The loop's invariant: the slots passed that are open.
use mathlib.Core.Path.{◌≡◌}
use Rattle.base_choice_sets.specs.Sets.{set_of}
use Rattle.list_tables.specs.steps.Tables.{entry_at}
use Rattle.list_look.specs.steps.Slots.{slot_open}
use Rattle.list_look.proofs.open.open_slots.Given as goal

abbrev pub invariant-loop-slot : goal.invariant-loop-slot
invariant-loop-slot l =
    l.found ≡ set_of l.slot (slot_open (entry_at l.rest.tables.now) l.next.choosers l.rest.from l.next.sums.now.maxs l.next.least l.next.sums.now.mins l.next.most l.rest.need l.rest.spare l.next.domain)
