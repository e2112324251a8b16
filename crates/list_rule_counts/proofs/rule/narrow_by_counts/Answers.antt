-- Each refusal leaves the domains, and the rest is narrowed.
use Rattle.list_rule_counts.proofs.RuleLaws.{rule-many-choices, rule-many-choosers, rule-other-length, rule-many-slots, rule_fits}
use Rattle.list_rule_counts.proofs.rule.narrow_by_counts.Goals as goal

pub returns-then-counts-gt64 : goal.returns-then-counts-gt64
returns-then-counts-gt64 c =
    rule-many-choices _ _ _ _ _ _ _ _ c.if-counts-gt64.true

pub returns-then-counts-gt200 : goal.returns-then-counts-gt200
returns-then-counts-gt200 c =
    rule-many-choosers _ _ _ _ _ _ _ _ c.if-counts-gt64.false c.if-counts-gt200.true

pub returns-then-day-counts : goal.returns-then-day-counts
returns-then-day-counts c =
    rule-other-length _ _ _ _ _ _ _ _ c.if-counts-gt64.false c.if-counts-gt200.false c.if-day-counts.true

pub returns-then-counts-gt24 : goal.returns-then-counts-gt24
returns-then-counts-gt24 c =
    rule-many-slots _ _ _ _ _ _ _ _ c.if-counts-gt64.false c.if-counts-gt200.false c.if-day-counts.false c.if-counts-gt24.true

pub returns : goal.returns
returns c =
    rule_fits _ _ _ _ _ _ _ _ _ _ _ c.if-counts-gt64.false c.if-counts-gt200.false c.if-day-counts.false c.if-counts-gt24.false c.first_in-from.ensures.0 c.narrow_by_rooms.ensures c.narrow_by_wants.ensures
