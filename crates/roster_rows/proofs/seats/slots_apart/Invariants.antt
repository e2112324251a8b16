-- The loop's invariant: exactly the slots of the cells passed are marked.
use Rattle.roster_rows.proofs.ApartLaws.{Meeting}
use Rattle.roster_rows.proofs.seats.slots_apart.Given as goal

abbrev pub invariant-loop-cell : goal.invariant-loop-cell
invariant-loop-cell l =
    Meeting l.plan l.cells l.cell-index l.met
