-- The loop's invariant: what the slots passed leave of the domains.
use mathlib.Core.Path.{◌≡◌}
use Rattle.list_rule_counts.specs.steps.Lent.{rooms_by}
use Rattle.list_rule_counts.proofs.rooms.narrow_by_rooms.Given as goal

abbrev pub invariant-loop-slot : goal.invariant-loop-slot
invariant-loop-slot l =
    l.domains ≡ rooms_by l.figures l.rooms l.day.counts.choices l.day.maxs.now l.from l.slot l.initial.domains
