use Rattle.search_turn.proofs.DepthLaws.{open_none, open_some}
use Rattle.search_turn.proofs.depth.open_depth.Goals as goal

pub returns-then-lent-depth : goal.returns-then-lent-depth
returns-then-lent-depth c =
    open_none _ _ _ c.if-lent-depth.true

pub returns : goal.returns
returns c =
    open_some _ _ _ _ _ _ _ _ _ _ c.if-lent-depth.false c.rows_of.ensures c.fill.ensures
