use mathlib.Core.Path.{sym, ◌∙◌}
use native.Mathlib.Omega.{arith}
use Rattle.roster_check.proofs.JudgeLaws.{list-start, list-next, list_stops, list-good}
use Rattle.roster_check.proofs.judge.judge_list.Goals as goal

pub loop-i-init : goal.loop-i-init
loop-i-init c =
    list-start _ _ _ _

pub overflow_add-result : goal.overflow_add-result
overflow_add-result c =
    omega (arith, c.requires, c.loop-i-test.true)

pub returns-then-not-row_keeps : goal.returns-then-not-row_keeps
returns-then-not-row_keeps c =
    list_stops _ _ _ _ _ c.loop-i-test.true c.loop-i.invariant (sym c.row_keeps.ensures ∙ c.if-not-row_keeps.true)

pub loop-i-preserved : goal.loop-i-preserved
loop-i-preserved c =
    list-next _ _ _ _ _ c.loop-i-test.true c.loop-i.invariant (sym c.row_keeps.ensures ∙ c.if-not-row_keeps.false)

pub returns : goal.returns
returns c =
    list-good _ _ _ _ _ c.loop-i-test.false c.loop-i.invariant
