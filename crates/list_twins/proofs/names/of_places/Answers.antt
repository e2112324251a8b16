-- The places of both.
use mathlib.Core.Path.{◌∙◌}
use Rattle.list_twins.proofs.NameLaws.{both-places}
use Rattle.list_twins.proofs.names.of_places.Goals as goal

pub returns : goal.returns
returns c =
    c.either.ensures ∙ both-places _ _ _ _ _ _ _ _ _ c.left_of.ensures c.right_of.ensures c.place_of-left.ensures c.place_of-right.ensures c.only.ensures c.only-2.ensures
