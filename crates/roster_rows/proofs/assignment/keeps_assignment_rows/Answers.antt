-- The roster's shape, one test after the other, and then the rows.
use mathlib.Core.Path.{◌∙◌}
use native.Mathlib.Omega.{arith}
use Rattle.roster_rows.proofs.CellLaws.{few-cells}
use Rattle.roster_rows.proofs.KindLaws.{many-choices, many-slots, many-choosers, wrong_length, rows_decide}
use Rattle.roster_rows.proofs.assignment.keeps_assignment_rows.Goals as goal

pub returns-then-roster-gt64 : goal.returns-then-roster-gt64
returns-then-roster-gt64 c =
    many-choices _ _ c.if-roster-gt64.true

pub returns-then-roster-gt24 : goal.returns-then-roster-gt24
returns-then-roster-gt24 c =
    many-slots _ _ c.if-roster-gt64.false c.if-roster-gt24.true

pub returns-then-roster-gt200 : goal.returns-then-roster-gt200
returns-then-roster-gt200 c =
    many-choosers _ _ c.if-roster-gt64.false c.if-roster-gt24.false c.if-roster-gt200.true

pub overflow_mul-roster : goal.overflow_mul-roster
overflow_mul-roster c =
    omega (arith, few-cells _ _ c.if-roster-gt24.false c.if-roster-gt200.false)

pub returns-then-roster : goal.returns-then-roster
returns-then-roster c =
    wrong_length _ _ c.if-roster-gt64.false c.if-roster-gt24.false c.if-roster-gt200.false c.if-roster.true

pub returns : goal.returns
returns c =
    c.keeps_each_row.ensures ∙ rows_decide _ _ c.if-roster-gt64.false c.if-roster-gt24.false c.if-roster-gt200.false c.if-roster.false
