-- The sets of the list, or none where it is refused.
use native.Mathlib.Omega.{arith}
use Rattle.search.proofs.SetSteps.{sets-listed, sets-refused}
use Rattle.search.proofs.sets.sets_at.Goals as goal

pub returns-in_default : goal.returns-in_default
returns-in_default c = (omega arith, sets-refused _ _ _ _ _ _ c.requires c.level_list-listed.ensures c.in_default.is)

pub returns : goal.returns
returns c = sets-listed _ _ _ _ _ _ c.requires c.level_list-listed.ensures c.in-Ok.is
