-- The loop's invariant: both counts are those of the choices passed.
use mathlib.Core.Path.{◌≡◌}
use Rattle.list_rule_slots.specs.steps.SlotRules.{must_count, may_count}
use Rattle.list_rule_slots.proofs.limits.slot_counts.Given as goal

abbrev pub invariant-loop-domain : goal.invariant-loop-domain
invariant-loop-domain l =
    (l.must ≡ must_count l.domain-index l.domains l.slot) × (l.may ≡ may_count l.domain-index l.domains l.slot)
