-- The offset is 0, or it is another.
use mathlib.Core.Path.{◌∙◌}
use Rattle.list_rule_rows.proofs.SideLaws.{own-zero, own-other}
use Rattle.list_rule_rows.proofs.sides.own_offset_leaves.Goals as goal

pub returns-then-holds : goal.returns-then-holds
returns-then-holds c = own-zero _ _ _ c.if-holds.true

pub returns : goal.returns
returns c = c.omission_alone.ensures ∙ own-other _ _ _ c.if-holds.false
