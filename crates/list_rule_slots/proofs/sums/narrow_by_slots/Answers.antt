-- Each early return is a shape that the rule leaves alone.
use mathlib.Core.Path.{◌∙◌}
use Rattle.list_rule_slots.proofs.StepLaws.{slots-choices, slots-slots, slots-mins, slots-maxs, slots-done}
use Rattle.list_rule_slots.proofs.sums.narrow_by_slots.Goals as goal

pub returns-then-counts-gt64 : goal.returns-then-counts-gt64
returns-then-counts-gt64 c =
    slots-choices _ _ _ _ c.if-counts-gt64.true

pub returns-then-counts-gt24 : goal.returns-then-counts-gt24
returns-then-counts-gt24 c =
    slots-slots _ _ _ _ c.if-counts-gt64.false c.if-counts-gt24.true

pub returns-then-day-counts : goal.returns-then-day-counts
returns-then-day-counts c =
    slots-mins _ _ _ _ c.if-counts-gt64.false c.if-counts-gt24.false c.if-day-counts.true

pub returns-then-day-counts-2 : goal.returns-then-day-counts-2
returns-then-day-counts-2 c =
    slots-maxs _ _ _ _ c.if-counts-gt64.false c.if-counts-gt24.false c.if-day-counts.false c.if-day-counts-2.true

pub returns : goal.returns
returns c =
    c.narrow_by_each_slot.ensures ∙ slots-done _ _ _ _ c.if-counts-gt64.false c.if-counts-gt24.false c.if-day-counts.false c.if-day-counts-2.false
