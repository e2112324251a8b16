-- No two answers fit what `Columns::of` promises.
use mathlib.Core.Path.{◌≡◌}
use Prim.Native.Nat.{ℕ}
use Rattle.base_lists.proofs.Outcome.{no_two}
use Rattle.day_rows.specs.Kinds.{columns_of}
use Rattle.day_rows.specs.declared.table.Columns.{Columns}

pub one_columns : (kind : ℕ) {a b : Columns} → a ≡ columns_of kind → b ≡ columns_of kind → a ≡ b
one_columns kind = no_two
