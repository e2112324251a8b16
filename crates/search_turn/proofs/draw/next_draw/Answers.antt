use Rattle.search_turn.proofs.DrawLaws.{next_past, next-on, next-first}
use Rattle.search_turn.proofs.draw.next_draw.Goals as goal

pub returns-then-draws-at : goal.returns-then-draws-at
returns-then-draws-at c =
    next_past _ _ c.if-draws-at.true

pub returns-then-at-draws : goal.returns-then-at-draws
returns-then-at-draws c =
    next-on _ _ c.if-at-draws.true

pub returns : goal.returns
returns c =
    next-first _ _ c.if-at-draws.false
