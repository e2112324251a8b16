-- Omitted, no slot, or the one that faces.
use Rattle.list_twins.proofs.NameLaws.{asked-omitted, asked-below, asked-slot}
use Rattle.list_twins.proofs.names.asked_of.Goals as goal

pub returns-then-place-eq-OMITTED : goal.returns-then-place-eq-OMITTED
returns-then-place-eq-OMITTED c =
    asked-omitted _ _ _ c.if-place-eq-OMITTED.true

pub returns-then-high-low : goal.returns-then-high-low
returns-then-high-low c =
    asked-below _ _ _ _ _ _ c.from.ensures c.from-2.ensures c.from-low.ensures c.if-place-eq-OMITTED.false c.if-high-low.true

pub returns : goal.returns
returns c =
    asked-slot _ _ _ _ _ _ c.from.ensures c.from-2.ensures c.from-low.ensures c.if-place-eq-OMITTED.false _ c.if-high-low.false c.only.ensures
