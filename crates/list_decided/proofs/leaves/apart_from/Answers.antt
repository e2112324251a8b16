-- An omitted choice takes no place away, one in a slot its slot.
use mathlib.Core.Path.{◌∙◌}
use Rattle.list_decided.proofs.LeavesLaws.{apart-omitted, apart-slot}
use Rattle.list_decided.proofs.leaves.apart_from.Goals as goal

pub returns-then-slots-place : goal.returns-then-slots-place
returns-then-slots-place c =
    apart-omitted _ _ _ c.if-slots-place.true

pub returns : goal.returns
returns c =
    c.kept.ensures ∙ apart-slot _ _ _ c.if-slots-place.false
