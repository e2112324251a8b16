-- Free, settled past the slots, or settled in one.
use Rattle.list_rule_tables.proofs.SettledLaws.{changed_free, changed_past, changed_in, lack-left}
use Rattle.list_rule_tables.proofs.figures.bring.Goals as goal

pub returns-then-not-is_settled : goal.returns-then-not-is_settled
returns-then-not-is_settled c = changed_free _ _ _ _ _ c.is_settled.ensures (c.if-not-is_settled.true)

pub returns-then-slots-slot : goal.returns-then-slots-slot
returns-then-slots-slot c = changed_past _ _ _ _ _ c.is_settled.ensures _ (c.if-not-is_settled.false) c.lowest_place-slot.ensures c.if-slots-slot.true

pub returns : goal.returns
returns c = changed_in _ _ _ _ _ c.is_settled.ensures _ (c.if-not-is_settled.false) c.lowest_place-slot.ensures _ c.if-slots-slot.false (lack-left _ _ _ _ c.saturating_sub.ensures c.from.ensures)
