-- A slot of the day gives the amount back; nothing else changes.
use Rattle.list_walk.proofs.StandLaws.{taken-past, taken_out, taken_in}
use Rattle.list_walk.proofs.stand.take_at.Goals as goal

pub returns-then-slots-gt24 : goal.returns-then-slots-gt24
returns-then-slots-gt24 c =
    taken-past _ _ _ _ c.if-slots-gt24.true

pub returns-then-slots-place : goal.returns-then-slots-place
returns-then-slots-place c =
    taken_out _ _ _ _ c.if-slots-gt24.false c.if-slots-place.true

pub returns : goal.returns
returns c =
    taken_in c.args.slots c.args.place c.args.amount c.args.sums.now c.if-slots-gt24.false c.if-slots-place.false c.saturating_sub.ensures
