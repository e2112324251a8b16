-- The loop's invariant: the sets that are left decide, with whether one was met.
use Rattle.sets_analysis.specs.Calls.{sets_of}
use Rattle.sets_analysis.proofs.BoundSteps.{LowersFrom}
use Rattle.sets_analysis.proofs.bound.lowers_bound.Given as goal

abbrev pub invariant-loop-i : goal.invariant-loop-i
invariant-loop-i l = LowersFrom l.slots l.level (sets_of l.masks l.levels) l.some l.i
