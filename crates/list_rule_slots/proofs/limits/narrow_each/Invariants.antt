-- An idle limit leaves the domains as they are; else the loop's invariant: each domain passed is what the
-- limit leaves of it, the others are as they were.
use mathlib.Core.Path.{◌≡◌}
use Rattle.list_domains.specs.steps.Domains.{each_below}
use Rattle.list_rule_slots.proofs.StepLaws.{limit_step}
use Rattle.list_rule_slots.proofs.limits.narrow_each.Given as goal

abbrev pub invariant-loop-choice : goal.invariant-loop-choice
invariant-loop-choice l =
    l.domains ≡ each_below l.choice (limit_step l.row l.slot_counts.must l.slot_counts.may) l.initial.domains
