-- What is refused, and else what the passes say.
use mathlib.Core.Path.{◌∙◌}
use Rattle.day_rows.proofs.ToldLaws.{passed_on}
use Rattle.roster_check.proofs.CallLaws.{listed, few-rows, few-assignment-rows, judged, call_lists, call_rows, call_cells, call_answers}
use Rattle.roster_check.proofs.roster_check.check_roster.Goals as goal

pub returns-in_err-judge_lists : goal.returns-in_err-judge_lists
returns-in_err-judge_lists c =
    passed_on _ _ c.from_residual.ensures.1 ∙ call_lists _ c.in_err-judge_lists.ensures

pub judge_rows-requires : goal.judge_rows-requires
judge_rows-requires c =
    let l = listed _ c.in_ok-judge_lists.ensures in
    (few-rows _ l, few-assignment-rows _ l)

pub returns-in_err-judge_rows : goal.returns-in_err-judge_rows
returns-in_err-judge_rows c =
    passed_on _ _ c.from_residual-in_err-judge_rows.ensures.1 ∙ call_rows _ c.in_ok-judge_lists.ensures c.in_err-judge_rows.ensures

pub returns-in_err-judge_cells : goal.returns-in_err-judge_cells
returns-in_err-judge_cells c =
    passed_on _ _ c.from_residual-in_err-judge_cells.ensures.1 ∙ call_cells _ c.in_ok-judge_lists.ensures c.in_ok-judge_rows.ensures c.in_err-judge_cells.ensures

pub highest_met-highest-requires : goal.highest_met-highest-requires
highest_met-highest-requires c =
    judged _ (listed _ c.in_ok-judge_lists.ensures) c.in_ok-judge_cells.ensures

pub passes_all-passed-requires : goal.passes_all-passed-requires
passes_all-passed-requires c =
    judged _ (listed _ c.in_ok-judge_lists.ensures) c.in_ok-judge_cells.ensures

pub returns : goal.returns
returns c =
    call_answers _ c.in_ok-judge_lists.ensures c.in_ok-judge_rows.ensures c.in_ok-judge_cells.ensures c.passes_all-passed.ensures c.highest_met-highest.ensures
