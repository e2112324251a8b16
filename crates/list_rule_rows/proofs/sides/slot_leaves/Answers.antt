-- A slot past the day's, or the domain's own law.
use mathlib.Core.Path.{◌∙◌}
use Rattle.list_rule_rows.proofs.SideLaws.{leaves-past, leaves_by}
use Rattle.list_rule_rows.proofs.sides.slot_leaves.Goals as goal

pub returns-then-slots-slot : goal.returns-then-slots-slot
returns-then-slots-slot c = leaves-past _ _ _ _ c.if-slots-slot.true

pub returns : goal.returns
returns c = c.kept.ensures ∙ leaves_by _ _ _ _ c.if-slots-slot.false
