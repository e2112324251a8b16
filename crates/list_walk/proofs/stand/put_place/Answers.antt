-- Omission, a slot, or nothing.
use Rattle.list_walk.proofs.StandLaws.{put-past, put-none, put-out, put_in}
use Rattle.list_walk.proofs.stand.put_place.Goals as goal

pub returns-then-slots-gt24 : goal.returns-then-slots-gt24
returns-then-slots-gt24 c =
    put-past _ _ _ _ c.if-slots-gt24.true

pub returns-then-plan-choice : goal.returns-then-plan-choice
returns-then-plan-choice c =
    put-none _ _ _ _ c.if-slots-gt24.false c.if-plan-choice.true

pub returns-then-slots-place : goal.returns-then-slots-place
returns-then-slots-place c =
    put-out _ _ _ _ c.if-slots-gt24.false c.if-slots-place.true

pub returns : goal.returns
returns c =
    put_in _ _ _ _ c.if-slots-gt24.false c.if-slots-place.false
