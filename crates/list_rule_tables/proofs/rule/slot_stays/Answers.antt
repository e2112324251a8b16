-- The slot is not in the domain, or the tables are asked.
use mathlib.Core.Path.{sym, ◌∙◌}
use Rattle.list_rule_tables.proofs.RuleLaws.{slot-lost, slot-asked}
use Rattle.list_rule_tables.proofs.rule.slot_stays.Goals as goal

pub returns-then-not-member : goal.returns-then-not-member
returns-then-not-member c =
    slot-lost _ _ _ _ _ _ _ _ _ _ _ _ (sym c.member.ensures ∙ c.if-not-member.true)

pub returns : goal.returns
returns c =
    slot-asked _ _ _ _ _ _ _ _ _ _ _ _ _ _ _ _ (sym c.member.ensures ∙ c.if-not-member.false) c.saturating_sub.ensures c.saturating_sub-2.ensures c.slot_needs-rest.ensures.0 c.slot_needs-whole.ensures.0
