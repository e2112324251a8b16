-- The other choice is omitted, or the slot that faces it from either side is left.
use mathlib.Core.Path.{◌∙◌}
use Rattle.list_decided.proofs.LeavesLaws.{offset-omitted, offset-left, offset-right}
use Rattle.list_decided.proofs.leaves.by_offset.Goals as goal

pub returns-then-slots-other : goal.returns-then-slots-other
returns-then-slots-other c =
    c.kept.ensures ∙ offset-omitted _ _ _ _ _ _ c.from-other.ensures c.if-slots-other.true

pub returns-then-is_left : goal.returns-then-is_left
returns-then-is_left c =
    c.facing_slot.ensures ∙ offset-left _ _ _ _ _ _ c.from-other.ensures _ c.from.ensures c.if-slots-other.false c.if-is_left.true

pub returns : goal.returns
returns c =
    c.facing_slot-2.ensures ∙ offset-right _ _ _ _ _ _ c.from-other.ensures _ c.from-2.ensures c.if-slots-other.false c.if-is_left.false
