use mathlib.Core.Path.{◌∙◌, ap}
use mathlib.Core.List.{[], ◌∷◌, map}
use Prim.Native.Nat.{◌+◌}
use native.Mathlib.Omega.{arith}
use lib.ListN.{length, get_or, drop}
use Rattle.base_lists.proofs.Stores.{stores-part}
use Rattle.base_lists.proofs.Keep.{map_at}
use Rattle.reduce_turn.proofs.Putting.{put_fills}
use Rattle.reduce_added.specs.Pairs.{pair_row}
use Rattle.reduce_added.proofs.Pairing.{pair-row-is}
use Rattle.reduce_added.proofs.pairs.pairs_with.Goals as goal

pub loop-right-preserved : goal.loop-right-preserved
loop-right-preserved c =
    let l = c.loop-right in
    let list = c.args.list.now in
    let one = map_at (pair_row c.args.left) list l.right-index 0 c.loop-right-test.true in
    let pair = pair-row-is _ _ c.pair_row.ensures c.from.ensures in
    let w = rw pair at (put_fills l.free c.put.new.self _ (omega (arith, ap length one, l.invariant.1.counted, c.requires)) c.put.ensures) in
    (w.0 ∙ l.invariant.0, stores-part (pair_row c.args.left (get_or list l.right-index 0) ∷ []) (map (pair_row c.args.left) (drop (l.right-index + 1) list)) (rw one at l.invariant.1) w.1.0 w.1.1)
