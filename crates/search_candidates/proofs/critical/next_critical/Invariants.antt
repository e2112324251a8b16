-- The loop's invariant: no slot looked at is critical.
use mathlib.Core.Path.{◌≡◌}
use Rattle.base_lists.specs.Group.{keep_below}
use Rattle.search_candidates.specs.steps.Maximums.{is_critical}
use Rattle.search_candidates.proofs.critical.next_critical.Given as goal

abbrev pub invariant-loop-slot : goal.invariant-loop-slot
invariant-loop-slot l = keep_below l.slot (is_critical l.asked.counts.choosers l.asked.loads.slot_max.now l.rest) ≡ keep_below l.from (is_critical l.asked.counts.choosers l.asked.loads.slot_max.now l.rest)
