-- The loop's invariant: both sums of every slot are those of the choices passed.
use Rattle.list_rule_slots.specs.steps.Sums.{SumsOf}
use Rattle.list_rule_slots.proofs.slot_sums.add_choices.Given as goal

abbrev pub invariant-loop-choice : goal.invariant-loop-choice
invariant-loop-choice l =
    SumsOf l.counts.slots l.choice l.mins l.maxs l.domains l.sums.musts l.sums.mays
