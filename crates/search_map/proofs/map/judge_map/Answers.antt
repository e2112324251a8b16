-- The three tests in their order.
use Rattle.search_map.proofs.Holding.{entries_fail, numbers_fail, whole-decides}
use Rattle.search_map.proofs.map.judge_map.Goals as goal

pub returns-then-not-entries_fit : goal.returns-then-not-entries_fit
returns-then-not-entries_fit c =
    entries_fail _ _ _ _ _ _ _ c.entries_fit.ensures (c.if-not-entries_fit.true)

pub returns-then-not-numbers_fit : goal.returns-then-not-numbers_fit
returns-then-not-numbers_fit c =
    numbers_fail _ _ _ _ _ _ _ c.entries_fit.ensures (c.if-not-entries_fit.false) c.numbers_fit.ensures (c.if-not-numbers_fit.true)

pub returns : goal.returns
returns c =
    whole-decides _ _ _ _ _ _ _ c.entries_fit.ensures (c.if-not-entries_fit.false) c.numbers_fit.ensures (c.if-not-numbers_fit.false) c.is_whole.ensures
