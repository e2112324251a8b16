-- Four columns of sixteen bits fit a number of 64.
use mathlib.Core.Path.{refl}
use Rattle.day_rows.specs.Row.{row_number}
use Rattle.day_rows.proofs.row.U64FromRow.from.Goals as goal

pub returns : goal.returns
unfolding row_number
returns c =
    refl
