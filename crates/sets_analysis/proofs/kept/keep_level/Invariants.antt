-- The loop's invariant: the sets of the choosers so far are kept.
use Rattle.sets_analysis.specs.SetsDay.{sets_day_lent}
use Rattle.sets_analysis.specs.Calls.{sets_in}
use Rattle.sets_analysis.proofs.KeptSteps.{KeepsLevel}
use Rattle.sets_analysis.proofs.kept.keep_level.Given as goal

abbrev pub invariant-loop-chooser : goal.invariant-loop-chooser
invariant-loop-chooser l =
    KeepsLevel (sets_day_lent l.day) l.level (sets_in l.count l.initial.masks l.initial.set_levels) l.chooser l.kept l.masks l.set_levels
