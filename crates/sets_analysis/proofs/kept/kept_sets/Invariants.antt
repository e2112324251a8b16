-- The loop's invariant: the sets of the levels so far are kept.
use Rattle.sets_analysis.specs.SetsDay.{sets_day_lent}
use Rattle.sets_analysis.proofs.KeptSteps.{KeepsDown}
use Rattle.sets_analysis.proofs.kept.kept_sets.Given as goal

abbrev pub invariant-loop-index : goal.invariant-loop-index
invariant-loop-index l = KeepsDown (sets_day_lent l.day) l.index l.kept l.masks l.set_levels
