use mathlib.Core.Path.{sym, ◌∙◌}
use native.Mathlib.Omega.{arith}
use Rattle.search_turn.proofs.DepthLaws.{count_fits, room_of, opening-left, opening-made}
use Rattle.search_turn.proofs.depth.open_if_new.Goals as goal

pub returns-then-not-opens : goal.returns-then-not-opens
returns-then-not-opens c =
    opening-left _ _ _ _ _ _ _ _ _ (sym (c.if-not-opens.true) ∙ c.opens.ensures)

pub overflow_mul-start : goal.overflow_mul-start
overflow_mul-start c =
    omega (arith, (room_of _ _ _ _ _ (sym (c.if-not-opens.false) ∙ c.opens.ensures)).few)

pub overflow_add-bucket : goal.overflow_add-bucket
overflow_add-bucket c =
    omega (arith, (room_of _ _ _ _ _ (sym (c.if-not-opens.false) ∙ c.opens.ensures)).few)

pub offset_bounds-next-depth : goal.offset_bounds-next-depth
offset_bounds-next-depth c =
    omega (arith, (room_of _ _ _ _ _ (sym (c.if-not-opens.false) ∙ c.opens.ensures)).few)

pub bounds-next-depth : goal.bounds-next-depth
bounds-next-depth c =
    let room = room_of _ _ _ _ _ (sym (c.if-not-opens.false) ∙ c.opens.ensures) in
    omega (arith, room.few, room.next-length)

pub overflow_add-end : goal.overflow_add-end
overflow_add-end c =
    let room = room_of _ _ _ _ _ (sym (c.if-not-opens.false) ∙ c.opens.ensures) in
    let here = c.args in
    omega (arith, room.few, count_fits _ here.at.now.depth here.candidates.now _ _ _ (omega (arith, room.few, room.pool-length)) c.open_depth-filled.ensures c.open_depth-filled.auto.bucket)

pub offset_bounds-end-depth : goal.offset_bounds-end-depth
offset_bounds-end-depth c =
    omega (arith, (room_of _ _ _ _ _ (sym (c.if-not-opens.false) ∙ c.opens.ensures)).few)

pub bounds-end-depth : goal.bounds-end-depth
bounds-end-depth c =
    let room = room_of _ _ _ _ _ (sym (c.if-not-opens.false) ∙ c.opens.ensures) in
    omega (arith, room.few, room.end-length)

pub returns : goal.returns
returns c =
    opening-made _ _ _ _ _ _ _ _ _ _ _ _ _ _ (sym (c.if-not-opens.false) ∙ c.opens.ensures) c.depth_at-asked.ensures c.open_depth-filled.ensures c.draw_after.ensures

pub slice_bounds-bucket-end : goal.slice_bounds-bucket-end
slice_bounds-bucket-end c =
    let room = room_of _ _ _ _ _ (sym (c.if-not-opens.false) ∙ c.opens.ensures) in
    omega (arith, room.few, room.pool-length)
