-- The slots, with omission or without.
use Rattle.list_look.proofs.SlotLaws.{fitting-slots, fitting-all}
use Rattle.list_look.proofs.open.fitting_places.Goals as goal

pub returns-then-next-ne1 : goal.returns-then-next-ne1
returns-then-next-ne1 c =
    fitting-slots _ _ _ _ _ _ c.fitting_slots-found.ensures c.if-next-ne1.true

pub returns : goal.returns
returns c =
    fitting-all _ _ _ _ _ _ c.fitting_slots-found.ensures c.args.next.now.few c.if-next-ne1.false c.has_place.ensures c.with_if.ensures
