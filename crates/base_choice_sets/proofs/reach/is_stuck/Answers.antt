-- The undecided members decide alone, or with the covered slots.
use Rattle.base_choice_sets.proofs.ReachLaws.{not_stuck, stuck-by}
use Rattle.base_choice_sets.proofs.reach.is_stuck.Goals as goal

pub returns-then-slots-members : goal.returns-then-slots-members
returns-then-slots-members c = not_stuck _ _ _ _ c.undecided_members-members.ensures c.if-slots-members.true

pub returns : goal.returns
returns c =
    stuck-by _ _ _ _ _ c.undecided_members-members.ensures c.covered_slots.ensures c.if-slots-members.false
