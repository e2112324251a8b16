-- The loop's invariant: the cells looked at are counted.
use mathlib.Core.Path.{◌≡◌}
use Prim.Native.Nat.{ℕ, ◌≤◌}
use lib.Dec.{eqb}
use lib.ListN.{take}
use Rattle.std.specs.List.{count_by}
use Rattle.roster_rows.proofs.cells.times_in.Given as goal

abbrev pub invariant-loop-cell : goal.invariant-loop-cell
invariant-loop-cell l =
    (l.times ≤ l.cell-index) × (l.times ≡ count_by (λ (y : ℕ). eqb y l.choice) (take l.cell-index l.cells))
