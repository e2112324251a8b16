-- A place's twins are found, and taken away.
use Rattle.std.proofs.Common.{refl}
use Rattle.list_walk.proofs.StillLaws.{twins_away}
use Rattle.list_walk.proofs.stand.without_twins.Goals as goal

pub returns : goal.returns
returns c =
    twins_away _ _ _ _ _ _ _ refl c.twins_of-twins.ensures c.without.ensures
