use mathlib.Core.Path.{sym, ◌∙◌}
use Rattle.plan_check.proofs.CheckLaws.{rest-start, rest-next, rest-fails, rest-none}
use Rattle.roster_rows.specs.Rows.{keeps_assignment_rows}
use Rattle.roster_rows.proofs.assignment.keeps_each_row.Goals as goal

pub loop-row-init : goal.loop-row-init
loop-row-init c =
    rest-start _ _

pub returns-then-not-keeps_assignment_row : goal.returns-then-not-keeps_assignment_row
unfolding keeps_assignment_rows
returns-then-not-keeps_assignment_row c =
    sym (rest-fails _ _ _ c.loop-row-test.true c.loop-row.invariant (sym c.keeps_assignment_row.ensures ∙ c.if-not-keeps_assignment_row.true))

pub loop-row-preserved : goal.loop-row-preserved
loop-row-preserved c =
    rest-next _ _ _ c.loop-row-test.true c.loop-row.invariant (sym c.keeps_assignment_row.ensures ∙ c.if-not-keeps_assignment_row.false)

pub returns : goal.returns
unfolding keeps_assignment_rows
returns c =
    sym (rest-none _ _ _ c.loop-row-test.false c.loop-row.invariant)
