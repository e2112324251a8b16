use mathlib.Core.Path.{sym}
use Rattle.base_lists.proofs.Below.{all_more, one-fails}
use Rattle.base_lists.proofs.Through.{all_none}
use Rattle.search_map.proofs.Holding.{names-row, names-none}
use Rattle.search_map.proofs.map.numbers_fit.Goals as goal

pub loop-i-init : goal.loop-i-init
loop-i-init c =
    all_none _

pub returns-then-rows-word_at : goal.returns-then-rows-word_at
returns-then-rows-word_at c =
    sym (one-fails _ _ _ c.loop-i-test.true (names-none c.word_at.ensures _ c.if-rows-word_at.true))

pub loop-i-preserved : goal.loop-i-preserved
loop-i-preserved c =
    all_more _ _ c.loop-i.invariant (names-row c.word_at.ensures _ c.if-rows-word_at.false)
