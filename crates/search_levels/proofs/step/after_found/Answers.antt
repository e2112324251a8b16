-- The plan's answer, with the turns that were used.
use Rattle.search_levels.proofs.StepSteps.{answer-found}
use Rattle.search_levels.proofs.step.after_found.Goals as goal

pub returns : goal.returns
returns c = answer-found c.args.begun _ c.left_after.ensures c.figures_of.ensures
