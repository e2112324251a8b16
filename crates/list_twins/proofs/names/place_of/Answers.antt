-- A later choice stands nowhere yet.
use Rattle.list_twins.proofs.NameLaws.{stands-later, stands-placed}
use mathlib.Core.Path.{◌∙◌}
use Rattle.list_twins.proofs.names.place_of.Goals as goal

pub returns-then-choice-at : goal.returns-then-choice-at
returns-then-choice-at c =
    stands-later _ _ _ c.if-choice-at.true

pub returns : goal.returns
returns c =
    c.slot_of.ensures ∙ stands-placed _ _ _ c.if-choice-at.false
