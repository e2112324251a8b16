-- The loop's invariant: the domains of the choices passed are what the slot's room leaves of them.
use mathlib.Core.Path.{◌≡◌}
use Rattle.list_tables.specs.steps.Tables.{entry_at}
use Rattle.list_domains.specs.steps.Domains.{each_below}
use Rattle.list_rule_counts.specs.steps.CountRule.{room_rule}
use Rattle.list_rule_counts.proofs.rooms.narrow_slot.Given as goal

abbrev pub invariant-loop-choice : goal.invariant-loop-choice
invariant-loop-choice l =
    l.domains ≡ each_below l.choice (room_rule (entry_at l.figures.tables.now) l.maxs l.figures.free l.from l.figures.lacks.now l.rooms l.slot) l.initial.domains
