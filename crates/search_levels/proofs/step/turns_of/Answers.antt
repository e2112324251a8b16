-- Below the last level the smaller of both numbers.
use Rattle.search_levels.proofs.StepSteps.{turns-below}
use Rattle.search_levels.proofs.step.turns_of.Goals as goal

pub returns : goal.returns
returns c = turns-below _ _ _ c.if-last.false c.min.ensures
