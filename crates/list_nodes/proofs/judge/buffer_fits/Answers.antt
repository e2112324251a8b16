-- Room times C as a natural number: the quotient says whether the product fits.
use native.Mathlib.Omega.{arith}
use Rattle.list_nodes.proofs.JudgeLaws.{room-none, room-over, room_fits}
use Rattle.list_nodes.proofs.judge.buffer_fits.Goals as goal

pub returns-then-choices-eq0 : goal.returns-then-choices-eq0
returns-then-choices-eq0 c =
    room-none _ _ _ c.if-choices-eq0.true

pub returns-then-size-choices : goal.returns-then-size-choices
returns-then-size-choices c =
    room-over _ _ _ c.if-choices-eq0.false c.if-size-choices.true

pub overflow_mul-result : goal.overflow_mul-result
overflow_mul-result c =
    let s = c in
    omega (arith, room_fits _ _ _ c.if-choices-eq0.false c.if-size-choices.false)
