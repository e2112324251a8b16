-- The loop's invariant: each domain passed is what the sums leave of it, the others are as they were.
use mathlib.Core.Path.{◌≡◌}
use Rattle.list_domains.specs.steps.Domains.{each_below}
use Rattle.list_rule_slots.specs.steps.SumsLent.{must, may}
use Rattle.list_rule_slots.proofs.SumLaws.{left_step}
use Rattle.list_rule_slots.proofs.sums.narrow_each_choice.Given as goal

abbrev pub invariant-loop-choice : goal.invariant-loop-choice
invariant-loop-choice l =
    l.domains ≡ each_below l.choice (left_step l.counts (must l.sums) (may l.sums) l.mins l.maxs) l.initial.domains
