-- A slot of the day takes the amount; nothing else changes.
use Rattle.std.proofs.Common.{refl}
use Rattle.list_walk.proofs.StandLaws.{added-past, added_out, added_in}
use Rattle.list_walk.proofs.stand.add_at.Goals as goal

pub returns-then-slots-gt24 : goal.returns-then-slots-gt24
returns-then-slots-gt24 c =
    added-past _ _ _ _ c.if-slots-gt24.true

pub returns-then-slots-place : goal.returns-then-slots-place
returns-then-slots-place c =
    added_out _ _ _ _ c.if-slots-gt24.false c.if-slots-place.true

pub returns : goal.returns
returns c =
    added_in c.args.slots c.args.place c.args.amount c.args.sums.now c.if-slots-gt24.false c.if-slots-place.false refl
