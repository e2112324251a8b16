-- The columns are the definition's quotients and remainders; each fits sixteen bits.
use mathlib.Core.Path.{refl}
use Rattle.day_rows.specs.Row.{row_of}
use Rattle.day_rows.proofs.row.RowFromU64.from.Goals as goal

pub returns : goal.returns
unfolding row_of
returns c =
    refl
