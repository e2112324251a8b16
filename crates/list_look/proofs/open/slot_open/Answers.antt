-- A slot that lacks something, fits, and leaves enough.
use Rattle.list_look.proofs.SlotLaws.{open_filled, open_full, open_fitting}
use Rattle.list_look.proofs.open.slot_open.Goals as goal

pub returns-then-next-slot : goal.returns-then-next-slot
returns-then-next-slot c =
    open_filled _ _ _ _ _ _ _ _ _ _ _ c.requires.3 c.if-next-slot.true

pub returns-then-not-slot_fits : goal.returns-then-not-slot_fits
returns-then-not-slot_fits c =
    open_full _ _ _ _ _ _ _ _ _ _ _ c.slot_fits.ensures (c.if-not-slot_fits.true)

pub returns : goal.returns
returns c =
    open_fitting _ _ _ _ _ _ _ _ _ _ _ c.slot_fits.ensures (c.if-not-slot_fits.false) c.leaves_enough.ensures
