-- The day is refused, or its page is given.
use mathlib.Core.Path.{sym}
use Rattle.list_nodes.proofs.JudgeLaws.{judged}
use Rattle.list_page.proofs.PageTells.{passed_on, page-refused}
use Rattle.list_page.proofs.page.list_page.Goals as goal

pub returns-in_err-judge : goal.returns-in_err-judge
returns-in_err-judge c =
    rw (passed_on _ _ c.from_residual.ensures.1) (page-refused _ _ _ _ _ c.in_err-judge.ensures)

pub page_of_day-requires : goal.page_of_day-requires
page_of_day-requires c =
    judged _ _ _ c.in_ok-judge.ensures

pub returns : goal.returns
returns c =
    c.page_of_day.ensures (sym c.in_ok-judge.ensures)
