-- Every slot, and omission by the flag.
use Rattle.list_domains.proofs.PlaceLaws.{first-without, first_with}
use mathlib.Core.Path.{◌∙◌}
use Rattle.list_domains.proofs.places.first_domain.Goals as goal

pub returns-then-flag-ne1 : goal.returns-then-flag-ne1
returns-then-flag-ne1 c = first-without _ _ _ c.every_slot-every.ensures c.if-flag-ne1.true

pub returns : goal.returns
returns c = c.with.ensures ∙ first_with _ _ _ c.every_slot-every.ensures c.if-flag-ne1.false
