-- Too many slots, too many places, or the place by the zeros at the domain's end.
use Rattle.std.proofs.Common.{arith}
use Rattle.list_walk.proofs.NextLaws.{next-wide, next_past, next-found}
use Rattle.list_walk.proofs.next.next_open.Goals as goal

pub returns-then-slots-gt24 : goal.returns-then-slots-gt24
returns-then-slots-gt24 c = next-wide _ _ _ c.if-slots-gt24.true

pub returns-then-slots-left : goal.returns-then-slots-left
returns-then-slots-left c = next_past _ _ _ c.if-slots-left.true

pub returns : goal.returns
returns c = next-found _ _ _ (omega (arith, c.if-slots-gt24.false)) (omega (arith, c.if-slots-left.false)) c.from_first.ensures
