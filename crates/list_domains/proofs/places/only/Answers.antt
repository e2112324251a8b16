-- One law, of bits; no place is past 63.
use Rattle.list_domains.proofs.PlaceLaws.{only_law, only_past}
use Rattle.list_domains.proofs.places.only.Goals as goal

pub returns-then-place-ge64 : goal.returns-then-place-ge64
returns-then-place-ge64 c = only_past _ c.if-place-ge64.true

pub returns : goal.returns
returns c = only_law _ c.if-place-ge64.false
