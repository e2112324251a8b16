-- What the plan check answers.
use mathlib.Core.Path.{◌∙◌, ap}
use Rattle.thalluscrest_figures.specs.Crossing.{told_figures}
use Rattle.thalluscrest_figures.specs.Layouts.{check_figures}
use Rattle.thalluscrest.proofs.plans.thalluscrest_check_plan.Goals as goal

pub returns : goal.returns
returns c = c.put.ensures ∙ ap (told_figures check_figures) c.check_plan-checked.ensures
