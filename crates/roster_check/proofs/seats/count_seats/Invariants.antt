-- The loop's invariant: each byte's count and what is left make the whole.
use Rattle.roster_rows.proofs.TallyLaws.{Tallying}
use Rattle.roster_check.proofs.seats.count_seats.Given as goal

abbrev pub invariant-loop-cell : goal.invariant-loop-cell
invariant-loop-cell l =
    Tallying l.roster l.cell-index l.seats
