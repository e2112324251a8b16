-- What is refused, and else what the worker says.
use mathlib.Core.Path.{sym, ◌∙◌}
use Rattle.plan_check.proofs.CheckLaws.{cells_spared, check-before, check-cells, check-answers}
use Rattle.day_rows.proofs.ToldLaws.{passed_on}
use Rattle.plan_check.proofs.plan_check.check_plan.Goals as goal

pub returns-in_err-judge : goal.returns-in_err-judge
returns-in_err-judge c =
    passed_on _ _ c.from_residual.ensures.1 ∙ check-before _ _ c.in_err-judge.ensures

pub check_cells-requires : goal.check_cells-requires
check_cells-requires c =
    λ t. cells_spared _ _ c.in_ok-judge.ensures (sym c.is_feasible-feasible.ensures ∙ t)

pub returns-in_err-check_cells : goal.returns-in_err-check_cells
returns-in_err-check_cells c =
    passed_on _ _ c.from_residual-in_err-check_cells.ensures.1 ∙ check-cells _ _ c.in_ok-judge.ensures c.in_err-check_cells.ensures

pub returns : goal.returns
returns c =
    check-answers _ _ _ c.in_ok-judge.ensures c.in_ok-check_cells.ensures (sym c.is_feasible-feasible.ensures)
