use mathlib.Core.Path.{sym, ◌∙◌}
use Rattle.base_lists.proofs.Keep.{any_here, any_on, any_none}
use Rattle.reduce_turn.specs.Turn.{clashes_at}
use Rattle.reduce_turn.proofs.turn.clashes.Goals as goal

pub returns-then-clashes_at : goal.returns-then-clashes_at
returns-then-clashes_at c =
    let l = c.loop-row in
    sym (l.invariant ∙ any_here clashes_at _ l.row-index 0 c.loop-row-test.true (sym c.clashes_at.ensures ∙ c.if-clashes_at.true))

pub loop-row-preserved : goal.loop-row-preserved
loop-row-preserved c =
    let l = c.loop-row in
    l.invariant ∙ any_on clashes_at _ l.row-index 0 c.loop-row-test.true (sym c.clashes_at.ensures ∙ c.if-clashes_at.false)

pub returns : goal.returns
returns c =
    let l = c.loop-row in
    sym (l.invariant ∙ any_none clashes_at _ l.row-index c.loop-row-test.false)
