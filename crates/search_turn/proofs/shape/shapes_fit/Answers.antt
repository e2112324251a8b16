use Rattle.search_turn.proofs.ShapeLaws.{shape-choices, shape-slots, shape-mins, shape-maxs, shape-optional, shape-plan}
use Rattle.search_turn.proofs.shape.shapes_fit.Goals as goal

pub returns-then-choices-gt64 : goal.returns-then-choices-gt64
returns-then-choices-gt64 c =
    shape-choices _ _ c.if-choices-gt64.true

pub returns-then-day-gt24 : goal.returns-then-day-gt24
returns-then-day-gt24 c =
    shape-slots _ _ c.if-choices-gt64.false c.if-day-gt24.true

pub returns-then-day-choices : goal.returns-then-day-choices
returns-then-day-choices c =
    shape-mins _ _ c.if-choices-gt64.false c.if-day-gt24.false c.if-day-choices.true

pub returns-then-day-choices-2 : goal.returns-then-day-choices-2
returns-then-day-choices-2 c =
    shape-maxs _ _ c.if-choices-gt64.false c.if-day-gt24.false c.if-day-choices.false c.if-day-choices-2.true

pub returns-then-day-choices-3 : goal.returns-then-day-choices-3
returns-then-day-choices-3 c =
    shape-optional _ _ c.if-choices-gt64.false c.if-day-gt24.false c.if-day-choices.false c.if-day-choices-2.false c.if-day-choices-3.true

pub returns : goal.returns
returns c =
    shape-plan _ _ c.if-choices-gt64.false c.if-day-gt24.false c.if-day-choices.false c.if-day-choices-2.false c.if-day-choices-3.false
