-- At the last level the answer, else the next level.
use Rattle.search_levels.proofs.StepSteps.{answer-none, goes_up}
use Rattle.search_levels.proofs.step.after_without.Goals as goal

pub returns-then-begun : goal.returns-then-begun
returns-then-begun c = answer-none c.args.begun _ _ c.if-begun.true c.left_after-left.ensures c.figures_of.ensures

pub returns : goal.returns
returns c = goes_up c.args.begun _ _ c.if-begun.false c.left_after-left.ensures
