-- The levels from here on decide.
use Rattle.search_levels.proofs.LevelSteps.{LevelsTo}
use Rattle.search_levels.proofs.levels.levels_up_to.Given as goal

abbrev pub invariant-loop-i : goal.invariant-loop-i
invariant-loop-i l = LevelsTo l.levels l.limit l.i
