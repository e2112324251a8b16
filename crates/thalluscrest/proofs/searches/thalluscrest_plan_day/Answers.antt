-- What planning a day answers, and the plan that it leaves.
use mathlib.Core.Path.{sym, ◌∙◌}
use Rattle.thalluscrest_figures.specs.Layouts.{search_figures}
use Rattle.thalluscrest.proofs.CrossingLaws.{crosses, searched-through}
use Rattle.thalluscrest.proofs.searches.thalluscrest_plan_day.Goals as goal

pub returns : goal.returns
returns c = rw (sym c.analysis_by.ensures, sym c.is_yes.ensures) (crosses search_figures _ _ (c.put.ensures ∙ searched-through _) c.plan_day-searched.ensures.0)
