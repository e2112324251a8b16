-- The day is refused, or listed.
use mathlib.Core.Path.{sym, ap, ◌∙◌}
use Rattle.day_rows.specs.Told.{outcome}
use Rattle.list_nodes.proofs.JudgeLaws.{judged}
use Rattle.list_all.proofs.CallLaws.{passed_on, refused-told, good-told}
use Rattle.list_all.proofs.list_plans.list_plans.Goals as goal

pub returns-in_err-judge : goal.returns-in_err-judge
returns-in_err-judge c =
    ap (λ told. outcome told c.args.buffer.now) (passed_on _ _ c.from_residual.ensures.1)
    ∙ refused-told _ _ _ _ _ c.in_err-judge.ensures

pub list_day-requires : goal.list_day-requires
list_day-requires c =
    judged _ _ _ c.in_ok-judge.ensures

pub returns : goal.returns
returns c =
    c.list_day.ensures ∙ good-told _ _ _ _ _ (sym c.in_ok-judge.ensures)
