-- The loop's invariant: the sets so far are judged, the others are as they were.
use lib.ListN.{length}
use Rattle.sets_analysis.specs.Kept.{critical_set}
use Rattle.sets_analysis.proofs.SimplifiedSteps.{Drops}
use Rattle.sets_analysis.proofs.simplified.drop_at.Given as goal

abbrev pub invariant-loop-i : goal.invariant-loop-i
invariant-loop-i l = Drops (critical_set l.here_level l.here) (length l.initial.masks) l.initial.masks l.initial.levels l.stay l.i l.masks l.levels
