-- Nothing for the row's own choice, one row for every other member.
use mathlib.Core.Path.{refl}
use Rattle.base_lists.proofs.Stores.{stored-none}
use Rattle.reduce_turn.proofs.Putting.{put_fills}
use Rattle.reduce_added.proofs.Copying.{copy_own, copy_other}
use Rattle.reduce_added.proofs.copies.copy_to.Goals as goal

pub returns-then-member-row : goal.returns-then-member-row
returns-then-member-row c = (refl, stored-none _ _ (copy_own _ _ c.if-member-row.true))

pub returns : goal.returns
returns c =
    let one = copy_other c.args.row c.args.member c.if-member-row.false c.chooser_choice-copy.ensures c.from.ensures in
    rw one (put_fills c.args.free.now c.put.new.self _ (rw one at c.requires) c.put.ensures)
