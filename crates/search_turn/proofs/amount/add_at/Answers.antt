use mathlib.Core.Path.{◌∙◌}
use native.Mathlib.Omega.{arith}
use Rattle.search_turn.proofs.StateLaws.{more_is, more-past, more-at}
use Rattle.search_turn.proofs.amount.add_at.Goals as goal

pub returns-then-slot-ge24 : goal.returns-then-slot-ge24
returns-then-slot-ge24 c =
    more-past _ _ _ c.if-slot-ge24.true

pub returns : goal.returns
returns c =
    more-at _ _ _ _ c.if-slot-ge24.false (c.saturating_add.ensures ∙ more_is _ _ (omega arith))
