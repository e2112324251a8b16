-- What the search answers, and the plan that it leaves.
use mathlib.Core.Path.{sym, ◌∙◌}
use Rattle.thalluscrest_figures.specs.Layouts.{search_figures}
use Rattle.thalluscrest.proofs.CrossingLaws.{crosses, searched-through}
use Rattle.thalluscrest.proofs.searches.thalluscrest_search.Goals as goal

pub returns : goal.returns
returns c = rw (sym c.settings_by-settings.ensures) (crosses search_figures _ _ (c.put.ensures ∙ searched-through _) c.search-searched.ensures)
