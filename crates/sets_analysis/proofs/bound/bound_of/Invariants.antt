-- The loop's invariant: the levels that are left lower the bound so far to the whole's.
use Rattle.day_rows.specs.Levels.{last_level}
use Rattle.sets_analysis.specs.Calls.{sets_of}
use Rattle.sets_analysis.proofs.BoundSteps.{BoundFrom}
use Rattle.sets_analysis.proofs.bound.bound_of.Given as goal

abbrev pub invariant-loop-level : goal.invariant-loop-level
invariant-loop-level l =
    BoundFrom l.slots (sets_of l.masks l.set_levels) (last_level l.levels) l.levels l.bound l.level-index
