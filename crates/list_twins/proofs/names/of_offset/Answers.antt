-- Left has its place, right has, or neither.
use mathlib.Core.Path.{◌∙◌}
use Rattle.list_twins.proofs.NameLaws.{offset-left, offset-right, offset_neither}
use Rattle.list_twins.proofs.names.of_offset.Goals as goal

pub returns-then-has_place : goal.returns-then-has_place
returns-then-has_place c =
    c.asked_of.ensures ∙ offset-left _ _ _ _ _ _ c.left_of-left.ensures c.place_of.ensures c.extra_of-extra.ensures c.has_place.ensures c.if-has_place.true

pub returns-then-has_place-2 : goal.returns-then-has_place-2
returns-then-has_place-2 c =
    c.asked_of-then-has_place-2.ensures ∙ offset-right _ _ _ _ c.left_of-left.ensures c.has_place.ensures c.if-has_place.false _ _ _ _ c.right_of-right.ensures c.place_of-then-has_place-2.ensures c.extra_of-extra.ensures c.has_place-2.ensures c.if-has_place-2.true

pub returns : goal.returns
returns c =
    c.every.ensures ∙ offset_neither _ _ _ _ c.left_of-left.ensures c.has_place.ensures c.if-has_place.false _ _ c.right_of-right.ensures c.has_place-2.ensures c.if-has_place-2.false
