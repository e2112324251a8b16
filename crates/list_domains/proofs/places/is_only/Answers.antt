-- One number against the other.
use mathlib.Core.Path.{ap}
use lib.Dec.{eqb}
use Rattle.list_domains.proofs.places.is_only.Goals as goal

pub returns : goal.returns
returns c = ap (eqb c.args.domain) c.only.ensures
