-- A cell fits as 255, or by the slot's own test.
use mathlib.Core.Path.{sym}
use Rattle.plan_check.proofs.CheckLaws.{cell_omitted, cell_slot}
use Rattle.plan_check.proofs.plan_check.cell_fits.Goals as goal

pub returns-then-cell-eq-OMITTED : goal.returns-then-cell-eq-OMITTED
returns-then-cell-eq-OMITTED c =
    sym (cell_omitted _ _ c.if-cell-eq-OMITTED.true)

pub returns : goal.returns
returns c =
    sym (cell_slot _ _ c.if-cell-eq-OMITTED.false)
