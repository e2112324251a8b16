use mathlib.Core.Path.{◌∙◌}
use Rattle.search_turn.proofs.StateLaws.{put-past, put-at, slot-past, slot-at}
use Rattle.search_turn.proofs.amount.decide_at.Goals as goal

pub returns-then-choice-ge64 : goal.returns-then-choice-ge64
returns-then-choice-ge64 c =
    (put-past _ _ _ c.if-choice-ge64.true, slot-past _ _ c.if-choice-ge64.true)

pub returns : goal.returns
returns c =
    (put-at _ _ _ c.if-choice-ge64.false, c.from.ensures ∙ slot-at _ _ c.if-choice-ge64.false)
