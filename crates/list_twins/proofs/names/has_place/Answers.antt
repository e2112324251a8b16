-- A later choice, or one of the plan.
use Rattle.list_twins.proofs.NameLaws.{later, placed}
use Rattle.list_twins.proofs.names.has_place.Goals as goal

pub returns-then-choice-at : goal.returns-then-choice-at
returns-then-choice-at c =
    later _ _ _ c.if-choice-at.true

pub returns : goal.returns
returns c =
    placed _ _ _ c.if-choice-at.false
