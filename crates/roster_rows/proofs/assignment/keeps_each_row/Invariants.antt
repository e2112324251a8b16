-- The loop's invariant: the rows that are left decide.
use Rattle.day_rows.specs.Row.{row_of}
use Rattle.plan_check.proofs.CheckLaws.{RestDecides}
use Rattle.roster_rows.specs.Roster.{roster_lent}
use Rattle.roster_rows.specs.Rows.{keeps_assignment_row}
use Rattle.roster_rows.proofs.assignment.keeps_each_row.Given as goal

abbrev pub invariant-loop-row : goal.invariant-loop-row
invariant-loop-row l =
    RestDecides (λ number. keeps_assignment_row (roster_lent l.roster) (row_of number)) l.rows l.row-index
