-- Too many slots, one past the last, one that is named, or those that are alike.
use mathlib.Core.Path.{sym, ◌∙◌}
use Rattle.list_twins.proofs.AlikeLaws.{twins-many, twins-past, twins-named, twins-alike}
use Rattle.list_twins.proofs.twins.twins_of.Goals as goal

pub returns-then-counts-gt24 : goal.returns-then-counts-gt24
returns-then-counts-gt24 c =
    twins-many _ _ _ _ _ _ c.if-counts-gt24.true

pub returns-then-counts-slot : goal.returns-then-counts-slot
returns-then-counts-slot c =
    twins-past _ _ _ _ _ _ c.if-counts-gt24.false c.if-counts-slot.true

pub returns-then-member : goal.returns-then-member
returns-then-member c =
    twins-named _ _ _ _ _ _ _ c.if-counts-gt24.false c.if-counts-slot.false c.named_slots-names.ensures (sym c.member.ensures ∙ c.if-member.true)

pub returns : goal.returns
returns c =
    c.alike_slots.ensures ∙ twins-alike _ _ _ _ _ _ _ c.if-counts-gt24.false c.if-counts-slot.false c.named_slots-names.ensures (sym c.member.ensures ∙ c.if-member.false)
