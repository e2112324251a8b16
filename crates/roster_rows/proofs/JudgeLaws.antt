-- The refusals of cells, a law for each way through their functions.
use mathlib.Core.Path.{◌≡◌, ap}
use mathlib.Core.Bool.{true, false, not}
use mathlib.Core.List.{List}
use Prim.Native.Nat.{ℕ}
use lib.Dec.{eqb}
use Rattle.base_lists.specs.All.{all_of}
use Rattle.day_rows.specs.Told.{done, refuse}
use Rattle.plan_check.specs.Check.{cell_fits}
use Rattle.plan_check.specs.Plan.{slot_of, omitted}
use Rattle.roster_rows.specs.Seats.{names_scheduled, cells_judged}

-- the refusals of cells: 9 before 10
module _ (slots : ℕ) (plan roster : List ℕ) where
  pub cells-place : all_of (cell_fits slots) plan ≡ false → refuse 9 ≡ cells_judged slots plan roster
  unfolding cells_judged
  cells-place f = rw f

  pub cells_cell : all_of (cell_fits slots) plan ≡ true → all_of (names_scheduled plan) roster ≡ false → refuse 10 ≡ cells_judged slots plan roster
  unfolding cells_judged
  cells_cell t f = rw (t, f)

  pub cells-good : all_of (cell_fits slots) plan ≡ true → all_of (names_scheduled plan) roster ≡ true → done tt ≡ cells_judged slots plan roster
  unfolding cells_judged
  cells-good t u = rw (t, u)

-- a cell names a scheduled choice exactly if the code reads no 255
pub named_by : (plan : List ℕ) (cell : ℕ) {slot : ℕ} → slot ≡ slot_of plan cell → not (eqb slot 255) ≡ names_scheduled plan cell
unfolding names_scheduled omitted
named_by plan cell e = ap (λ (x : ℕ). not (eqb x 255)) e
