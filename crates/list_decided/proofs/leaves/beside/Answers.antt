-- The number of the other choice's place alone.
use mathlib.Core.Path.{◌∙◌}
use Rattle.list_decided.proofs.LeavesLaws.{beside_by}
use Rattle.list_decided.proofs.leaves.beside.Goals as goal

pub returns : goal.returns
returns c =
    c.kept.ensures ∙ beside_by _ _ _ _ c.place_number.ensures
