-- The row's left is the choice itself, or the other choice.
use mathlib.Core.Path.{◌∙◌}
use Rattle.list_decided.proofs.LeavesLaws.{other-right, other-left}
use Rattle.list_decided.proofs.leaves.other_place.Goals as goal

pub returns-then-left-choice : goal.returns-then-left-choice
returns-then-left-choice c =
    c.slot_of.ensures ∙ other-right _ _ _ _ _ c.left_of-left.ensures c.right_of.ensures c.if-left-choice.true

pub returns : goal.returns
returns c =
    c.slot_of-2.ensures ∙ other-left _ _ _ _ c.left_of-left.ensures c.if-left-choice.false
