-- A page that fits, told in figures, and the buffer that it leaves.
use mathlib.Core.Path.{◌∙◌}
use Rattle.thalluscrest.proofs.CrossingLaws.{paged-through}
use Rattle.thalluscrest.proofs.plans.thalluscrest_list_page.Goals as goal

pub returns : goal.returns
returns c = record { known = _; fits = c.list_page-paged.ensures; tells = c.put.ensures ∙ paged-through _ }
