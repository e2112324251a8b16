use mathlib.Core.Path.{sym, ◌∙◌}
use Rattle.plan_check.proofs.RowLaws.{rows_start, rows_next, rows-broken, rows-kept}
use borrow.Author.Rules.{rules}
use Rattle.plan_check.proofs.rows.keeps_rows.Goals as goal

pub loop-left-init : goal.loop-left-init
loop-left-init c =
    (search rules, rows_start _ _)

pub returns-then-not-keeps_row : goal.returns-then-not-keeps_row
returns-then-not-keeps_row c =
    let l = c.loop-left in
    sym (rows-broken _ _ _ c.loop-left-test.true l.invariant.0 l.invariant.1 (sym c.keeps_row.ensures ∙ c.if-not-keeps_row.true))

pub loop-left-preserved : goal.loop-left-preserved
loop-left-preserved c =
    let l = c.loop-left in
    (search rules, rows_next _ _ _ c.loop-left-test.true l.invariant.0 l.invariant.1 (sym c.keeps_row.ensures ∙ c.if-not-keeps_row.false))

pub returns : goal.returns
returns c =
    sym (rows-kept _ _ _ c.loop-left-test.false c.loop-left.invariant.1)
