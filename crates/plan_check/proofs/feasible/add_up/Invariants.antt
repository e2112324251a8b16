-- The loop's invariant: the choices passed are allowed where they stand, their sums and counts are listed.
use Rattle.plan_check.proofs.SumLaws.{Adding}
use Rattle.plan_check.proofs.feasible.add_up.Given as goal

abbrev pub invariant-loop-choice : goal.invariant-loop-choice
invariant-loop-choice l =
    Adding l.day.counts.slots l.day.mins.now l.day.maxs.now l.day.optional.now l.plan l.choice l.slot_min l.slot_max l.sizes
