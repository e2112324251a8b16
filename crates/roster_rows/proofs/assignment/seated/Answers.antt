-- The cells that are searched are the chooser's.
use mathlib.Core.Path.{◌∙◌, ap}
use lib.Dec.{eqb}
use Rattle.base_lists.specs.Keep.{any_of}
use Rattle.roster_rows.specs.Rows.{is_there}
use Rattle.roster_rows.proofs.assignment.seated.Goals as goal

pub returns : goal.returns
unfolding is_there
returns c =
    c.is_there.ensures ∙ ap (any_of (eqb _)) c.cells_of.ensures
