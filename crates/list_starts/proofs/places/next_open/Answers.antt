-- The choice's own two entries, then the places.
use Rattle.list_starts.proofs.OpenLaws.{none_open, open_found}
use Rattle.list_starts.proofs.places.next_open.Goals as goal

pub returns-then-slots-gt24 : goal.returns-then-slots-gt24
returns-then-slots-gt24 c = none_open _ _ _ _ _ _ _ c.if-slots-gt24.true

pub returns : goal.returns
returns c =
    open_found _ _ _ _ _ _ c.if-slots-gt24.false _ c.amount_of-least.ensures.0 c.flag_of-flag.ensures c.first_open.ensures
