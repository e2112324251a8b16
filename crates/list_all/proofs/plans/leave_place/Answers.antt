-- Omission leaves the sums alone; a slot gives the minimum back.
use mathlib.Core.List.{[]}
use lib.Arith.{lt_of_le-ne}
use Rattle.list_nodes.proofs.PlaceLaws.{without_omission, without-slot}
use Rattle.list_all.proofs.plans.leave_place.Goals as goal

pub returns-then-place-day : goal.returns-then-place-day
returns-then-place-day c =
    without_omission _ 0 _ [] _ _ _ c.if-place-day.true c.requires.few-slots

pub returns : goal.returns
returns c =
    let s = c in
    without-slot _ 0 _ [] _ _ _ (lt_of_le-ne s.requires.so_far c.if-place-day.false) c.from.ensures
