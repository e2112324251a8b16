-- The count so far, and what the rest has.
use mathlib.Core.Path.{◌≡◌}
use Prim.Native.Nat.{◌+◌, ◌≤◌}
use lib.ListN.{length, drop}
use Rattle.thalluscrest_figures.specs.steps.Kinds.{of_kinds}
use Rattle.thalluscrest_figures.proofs.day.count_kinds.Given as goal

abbrev pub invariant-loop-row : goal.invariant-loop-row
invariant-loop-row l = (l.row-index ≤ length l.rows) × (l.count ≤ l.row-index) × (l.count + length (of_kinds l.low l.high (drop l.row-index l.rows)) ≡ length (of_kinds l.low l.high l.rows))
