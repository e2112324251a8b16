-- The parts that are lent on are as long as asked.
use mathlib.Core.Path.{sym}
use lib.Seq.{length-take-le}
use Rattle.replay_maps.proofs.own_agrees_in.Goals as goal

pub slice_bounds-own_map-end-2 : goal.slice_bounds-own_map-end-2
slice_bounds-own_map-end-2 c = sym (length-take-le _ _ c.if-starts-case.false)

pub slice_bounds-own_map-end-4 : goal.slice_bounds-own_map-end-4
slice_bounds-own_map-end-4 c = sym (length-take-le _ _ c.if-sizes-case.false)

pub slice_bounds-own_map-end-6 : goal.slice_bounds-own_map-end-6
slice_bounds-own_map-end-6 c = sym (length-take-le _ _ c.if-numbers-case.false)
