-- No slot, one past the last, or the one that faces.
use mathlib.Core.Path.{◌∙◌}
use Rattle.list_decided.proofs.LeavesLaws.{facing-below, facing-past, facing-at}
use Rattle.list_decided.proofs.leaves.facing_slot.Goals as goal

pub returns-then-up-down : goal.returns-then-up-down
returns-then-up-down c =
    facing-below _ _ _ _ c.if-up-down.true

pub returns-then-slots-up : goal.returns-then-slots-up
returns-then-slots-up c =
    facing-past _ _ _ _ c.if-up-down.false c.if-slots-up.true

pub returns : goal.returns
returns c =
    c.kept.ensures ∙ facing-at _ _ _ _ c.if-up-down.false c.if-slots-up.false
