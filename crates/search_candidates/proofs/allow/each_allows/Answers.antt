use mathlib.Core.Path.{sym, ◌∙◌}
use lib.ListN.{get_or}
use Rattle.search_candidates.proofs.CaseLaws.{past-rows}
use Rattle.search_candidates.proofs.LoopLaws.{each_start, each_next, each-fails, each-done}
use Rattle.search_candidates.proofs.allow.each_allows.Goals as goal

pub loop-number-init : goal.loop-number-init
loop-number-init c =
    each_start _ _ _ _ _ _

pub returns-then-rows-at : goal.returns-then-rows-at
returns-then-rows-at c =
    sym (each-fails _ _ _ _ _ _ _ c.loop-number-test.true c.loop-number.invariant (past-rows c.args.asked.now.rows.now (get_or c.args.asked.now.numbers.now c.loop-number.number-index 0) _ _ _ _ c.if-rows-at.true))

pub returns-then-not-row_allows : goal.returns-then-not-row_allows
returns-then-not-row_allows c =
    sym (each-fails _ _ _ _ _ _ _ c.loop-number-test.true c.loop-number.invariant (sym c.row_allows.ensures ∙ c.if-not-row_allows.true))

pub loop-number-preserved : goal.loop-number-preserved
loop-number-preserved c =
    each_next _ _ _ _ _ _ _ c.loop-number-test.true c.loop-number.invariant (sym c.row_allows.ensures ∙ c.if-not-row_allows.false)

pub returns : goal.returns
returns c =
    sym (each-done _ _ _ _ _ _ _ c.loop-number-test.false c.loop-number.invariant)
