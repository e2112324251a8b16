-- Omission changes no sum; a slot takes the minimum.
use mathlib.Core.List.{[]}
use lib.Arith.{lt_of_le-ne}
use Rattle.list_nodes.proofs.PlaceLaws.{put_omission, with_omission, put-slot, with_slot}
use Rattle.list_all.proofs.plans.take_place.Goals as goal

pub returns-then-place-day : goal.returns-then-place-day
returns-then-place-day c =
    let s = c in
    (put_omission _ 0 [] [] [] s.args.choice _ c.if-place-day.true s.requires.4 s.args.plan.now.now, with_omission _ 0 _ [] _ _ _ c.if-place-day.true s.requires.4)

pub returns : goal.returns
returns c =
    let s = c in
    let h = lt_of_le-ne s.requires.3 c.if-place-day.false in
    (put-slot _ 0 [] [] [] s.args.choice _ h s.args.plan.now.now, with_slot _ 0 _ [] _ _ _ h c.from.ensures)
