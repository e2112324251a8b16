-- What the listing answers, and the buffer that it leaves.
use mathlib.Core.Path.{◌∙◌}
use Rattle.thalluscrest_figures.specs.Layouts.{page_figures}
use Rattle.thalluscrest.proofs.CrossingLaws.{crosses, listed-through}
use Rattle.thalluscrest.proofs.plans.thalluscrest_list_plans.Goals as goal

pub returns : goal.returns
returns c = crosses page_figures _ _ (c.put.ensures ∙ listed-through _) c.list_plans-listed.ensures
