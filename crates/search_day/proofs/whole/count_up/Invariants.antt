-- One number after the other.
use Rattle.search_day.proofs.WholeSteps.{CountedUp}
use Rattle.search_day.proofs.whole.count_up.Given as goal

abbrev pub invariant-loop-i : goal.invariant-loop-i
invariant-loop-i l = CountedUp l.size l.i l.whole
