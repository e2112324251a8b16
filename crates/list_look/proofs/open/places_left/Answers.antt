-- The choices after are enough without this one, or it is needed.
use Rattle.list_look.proofs.SlotLaws.{open_loose, open_tight}
use Rattle.list_look.proofs.open.places_left.Goals as goal

pub returns-then-need-spare : goal.returns-then-need-spare
returns-then-need-spare c =
    open_loose _ _ _ _ _ _ _ _ _ _ _ _ _ c.need_by_fills-need.ensures.0 c.if-need-spare.true c.fitting_places.ensures

pub returns : goal.returns
returns c =
    open_tight _ _ _ _ _ _ _ _ _ _ _ _ _ c.args.next.now.few c.need_by_fills-need.ensures.0 c.if-need-spare.false c.open_slots.ensures
