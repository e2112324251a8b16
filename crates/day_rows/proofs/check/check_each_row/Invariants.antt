-- The loop's invariant: the first bad row of the list is i places before the first bad one of what is left.
use Rattle.day_rows.proofs.CheckLaws.{RowsFrom}
use Rattle.day_rows.proofs.check.check_each_row.Given as goal

abbrev pub invariant-loop-i : goal.invariant-loop-i
invariant-loop-i l = RowsFrom l.counts l.takes l.rows l.i
