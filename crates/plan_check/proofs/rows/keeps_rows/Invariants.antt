-- The loop's invariant: the rows that are left decide.
use Prim.Native.Nat.{◌≤◌}
use lib.ListN.{length}
use Rattle.plan_check.proofs.RowLaws.{RowsLeft}
use Rattle.plan_check.proofs.rows.keeps_rows.Given as goal

abbrev pub invariant-loop-left : goal.invariant-loop-left
invariant-loop-left l = (l.left ≤ length l.rows) × RowsLeft l.plan l.rows l.left
