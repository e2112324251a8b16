use Rattle.search_turn.proofs.TurnLaws.{closes-not, closes-first}
use Rattle.search_turn.proofs.turn.closes.Goals as goal

pub returns-then-depth-ne0 : goal.returns-then-depth-ne0
returns-then-depth-ne0 c =
    closes-not _ _ _ c.if-depth-ne0.true

pub returns : goal.returns
returns c =
    closes-first _ _ _ c.if-depth-ne0.false
