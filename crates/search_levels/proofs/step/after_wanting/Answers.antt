-- Out of turns where the pass had all that were left, else the next level.
use Rattle.search_levels.proofs.StepSteps.{answer-out, goes_on-cut}
use Rattle.search_levels.proofs.step.after_wanting.Goals as goal

pub returns-then-begun : goal.returns-then-begun
returns-then-begun c = answer-out c.args.begun _ c.if-begun.true c.figures_of.ensures

pub returns : goal.returns
returns c = goes_on-cut c.args.begun _ c.if-begun.false c.saturating_sub.ensures
