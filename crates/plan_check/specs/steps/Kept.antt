-- A plan's rows asked alone, whatever its omissions and sums.
use Rattle.std.specs.Prelude.{Bool, ◌&&◌, List, ℕ, leb, length}
use Rattle.base_lists.specs.All.{all_of}
use Rattle.plan_check.specs.Check.{cell_fits}
use Rattle.plan_check.specs.Rows.{keeps_rows}

-- the answer of `keeps_every_row` on any input: a plan of at most 64 choices, each in one of 24 slots or
-- omitted, keeps every row
unfoldable pub keeps_every : List ℕ → List ℕ → Bool
keeps_every plan rows = leb (length plan) 64 && all_of (cell_fits 24) plan && keeps_rows plan rows
