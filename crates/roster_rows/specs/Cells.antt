-- A roster's cells, chooser by chooser.
use Rattle.std.specs.Prelude.{List, ℕ, ◌*◌}
use Rattle.base_lists.specs.Pool.{window}

-- the S cells of a chooser: 'the cell of a chooser at index s names a choice'
unfoldable pub cells_of : ℕ → List ℕ → ℕ → List ℕ
cells_of slots roster chooser = window (chooser * slots) slots roster
