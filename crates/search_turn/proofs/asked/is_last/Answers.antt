use Rattle.search_turn.proofs.DrawLaws.{not_last, last-is}
use Rattle.search_turn.proofs.asked.is_last.Goals as goal

pub returns-then-choices-depth : goal.returns-then-choices-depth
returns-then-choices-depth c =
    not_last _ _ c.if-choices-depth.true

pub returns : goal.returns
returns c =
    last-is c.args.choices c.args.depth
