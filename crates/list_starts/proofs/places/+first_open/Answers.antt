use mathlib.Core.Path.{◌∙◌}
use native.Mathlib.Nat.{pos_of_ne-zero}
use Rattle.list_nodes.proofs.PlaceLaws.{open_none, open_here, open_after}
use Rattle.list_starts.proofs.OpenLaws.{place-told}
use Rattle.list_starts.proofs.places.+first_open.Goals as goal

pub returns-then-left-eq0 : goal.returns-then-left-eq0
returns-then-left-eq0 t c =
    open_none _ _ _ _ _ _ c.if-left-eq0.true

pub returns-then-fits : goal.returns-then-fits
returns-then-fits t c =
    open_here _ _ _ _ _ _ _ c.if-left-eq0.false (place-told _ _ (pos_of_ne-zero c.if-left-eq0.false) c.place_at-place.ensures) c.fits.ensures c.if-fits.true

pub returns : goal.returns
returns t c =
    c.first_open.ensures ∙ open_after _ _ _ _ _ _ _ c.if-left-eq0.false (place-told _ _ (pos_of_ne-zero c.if-left-eq0.false) c.place_at-place.ensures) c.fits.ensures c.if-fits.false
