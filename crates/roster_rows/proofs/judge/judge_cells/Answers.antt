-- The refusals of cells, 9 before 10.
use mathlib.Core.Path.{sym, ◌∙◌}
use Rattle.roster_rows.proofs.JudgeLaws.{cells-place, cells_cell, cells-good}
use Rattle.roster_rows.proofs.judge.judge_cells.Goals as goal

pub returns-then-not-cells_fit : goal.returns-then-not-cells_fit
returns-then-not-cells_fit c =
    cells-place _ _ _ (sym c.cells_fit.ensures ∙ c.if-not-cells_fit.true)

pub returns-then-not-cells_named : goal.returns-then-not-cells_named
returns-then-not-cells_named c =
    cells_cell _ _ _ (sym c.cells_fit.ensures ∙ c.if-not-cells_fit.false) (sym c.cells_named.ensures ∙ c.if-not-cells_named.true)

pub returns : goal.returns
returns c =
    cells-good _ _ _ (sym c.cells_fit.ensures ∙ c.if-not-cells_fit.false) (sym c.cells_named.ensures ∙ c.if-not-cells_named.false)
