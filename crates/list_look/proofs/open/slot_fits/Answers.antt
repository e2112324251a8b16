-- The slot is outside the domain, or fits by what its sum leaves.
use Rattle.list_look.proofs.SlotLaws.{fits_absent, fits-room}
use Rattle.list_look.proofs.open.slot_fits.Goals as goal

pub returns-then-not-has_place : goal.returns-then-not-has_place
returns-then-not-has_place c =
    fits_absent _ _ _ _ _ c.has_place.ensures (c.if-not-has_place.true)

pub returns : goal.returns
returns c =
    fits-room _ _ _ _ _ c.requires.1 c.has_place.ensures (c.if-not-has_place.false)
