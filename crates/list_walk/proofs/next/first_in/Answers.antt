-- More slots than a day has, or the first of its places.
use Rattle.list_walk.proofs.NextLaws.{next-wide}
use Rattle.list_walk.proofs.next.first_in.Goals as goal

pub returns-then-slots-gt24 : goal.returns-then-slots-gt24
returns-then-slots-gt24 c = next-wide _ _ _ c.if-slots-gt24.true
