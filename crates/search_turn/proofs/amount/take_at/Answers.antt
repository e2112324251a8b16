use Rattle.search_turn.proofs.StateLaws.{less-past, less-at}
use Rattle.search_turn.proofs.amount.take_at.Goals as goal

pub returns-then-slot-ge24 : goal.returns-then-slot-ge24
returns-then-slot-ge24 c =
    less-past _ _ _ c.if-slot-ge24.true

pub returns : goal.returns
returns c =
    less-at _ _ _ _ c.if-slot-ge24.false c.saturating_sub.ensures
