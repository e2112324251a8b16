-- Omission by the flag, a slot by what its sum leaves.
use lib.Arith.{lt_of_le-ne}
use Rattle.list_nodes.proofs.PlaceLaws.{may_omit}
use Rattle.list_starts.proofs.OpenLaws.{over, within-room}
use Rattle.list_starts.proofs.places.fits.Goals as goal

pub returns-then-place-slots : goal.returns-then-place-slots
returns-then-place-slots c =
    may_omit _ _ _ _ _ _ _ c.if-place-slots.true c.requires.0

pub returns-then-choosers-least : goal.returns-then-choosers-least
returns-then-choosers-least c =
    over _ _ _ _ _ _ (lt_of_le-ne c.requires.1 c.if-place-slots.false) c.if-choosers-least.true

pub returns : goal.returns
returns c =
    within-room _ _ _ _ _ _ (lt_of_le-ne c.requires.1 c.if-place-slots.false) c.if-choosers-least.false
