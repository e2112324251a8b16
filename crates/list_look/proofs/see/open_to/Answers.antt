-- What the decided rows leave of the domain, and what is open of that.
use mathlib.Core.Path.{refl}
use Rattle.list_look.proofs.StepLaws.{opened-by}
use Rattle.list_look.proofs.see.open_to.Goals as goal

pub returns : goal.returns
returns c = opened-by _ _ _ _ _ _ _ _ _ _ _ refl c.domain_of-domain.ensures c.rows_leave-left.ensures c.open_places.ensures
