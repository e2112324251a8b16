-- The right column is a field of the number's row.
use mathlib.Core.Path.{ap}
use Rattle.day_rows.specs.declared.row.Row.{Row}
use Rattle.day_rows.proofs.row.Row.right_of.Goals as goal

pub returns : goal.returns
returns c =
    ap (λ (row : Row). row.right) c.from.ensures
