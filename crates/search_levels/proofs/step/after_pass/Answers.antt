-- One way on for each way that the pass ends.
use Rattle.search_levels.proofs.StepSteps.{step-found, step-without, step-wanting}
use Rattle.search_levels.proofs.step.after_pass.Goals as goal

pub returns-in-Found : goal.returns-in-Found
returns-in-Found c = step-found _ c.in-Found.is c.after_found.ensures

pub returns-in-Without : goal.returns-in-Without
returns-in-Without c = step-without _ c.in-Without.is c.after_without.ensures

pub returns-in-Wanting : goal.returns-in-Wanting
returns-in-Wanting c = step-wanting _ c.in-Wanting.is c.after_wanting.ensures
