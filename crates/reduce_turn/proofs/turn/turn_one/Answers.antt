-- Nothing for kind 9, one row for every other.
use mathlib.Core.Path.{refl}
use Rattle.base_lists.proofs.Stores.{stored-none}
use Rattle.reduce_turn.proofs.Putting.{put_fills}
use Rattle.reduce_turn.proofs.Turning.{turned_none, turned-some}
use Rattle.reduce_turn.proofs.turn.turn_one.Goals as goal

pub returns-then-from-eq-SLOTS_HAVE_SAME_CHOICES : goal.returns-then-from-eq-SLOTS_HAVE_SAME_CHOICES
returns-then-from-eq-SLOTS_HAVE_SAME_CHOICES c = (refl, stored-none _ _ (turned_none _ c.from.ensures c.if-from-eq-SLOTS_HAVE_SAME_CHOICES.true))

pub returns : goal.returns
returns c =
    let one = turned-some _ c.from.ensures c.if-from-eq-SLOTS_HAVE_SAME_CHOICES.false c.turned_row.ensures in
    rw one (put_fills c.args.free.now c.put.new.self _ (rw one at c.requires) c.put.ensures)
