-- The invariant: up to this choice the plan is the decisions.
use mathlib.Core.Path.{◌≡◌}
use lib.ListN.{length, take}
use Rattle.search_turn.proofs.plan.write_plan.Given as goal

abbrev pub invariant-loop-choice : goal.invariant-loop-choice
invariant-loop-choice l =
    (length l.plan ≡ length l.initial.plan) × (take l.choice l.plan ≡ take l.choice l.decisions)
