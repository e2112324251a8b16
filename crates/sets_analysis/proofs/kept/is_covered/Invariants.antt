-- The loop's invariant: the sets that are left decide.
use Rattle.sets_analysis.specs.Kept.{critical_set, covered_by}
use Rattle.sets_analysis.specs.Calls.{sets_of}
use Rattle.sets_analysis.proofs.DaySteps.{AnyFrom}
use Rattle.sets_analysis.proofs.kept.is_covered.Given as goal

abbrev pub invariant-loop-i : goal.invariant-loop-i
invariant-loop-i l =
    AnyFrom (λ other. covered_by other (critical_set l.level l.members)) (sets_of l.masks l.levels) l.i
