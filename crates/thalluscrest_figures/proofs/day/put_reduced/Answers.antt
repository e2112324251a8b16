-- The counts of a reduction, its lists counted in the pool.
use mathlib.Core.Path.{ap, sym, ◌∙◌}
use Rattle.day_rows.specs.Told.{tells}
use Rattle.thalluscrest_figures.specs.Crossing.{answer, told_figures}
use Rattle.thalluscrest_figures.specs.Layouts.{reduction_figures}
use Rattle.thalluscrest_figures.proofs.FigureLaws.{reduction-told}
use Rattle.thalluscrest_figures.proofs.day.put_reduced.Goals as goal

pub returns-in-Ok : goal.returns-in-Ok
returns-in-Ok c =
    ap (answer 0) (reduction-told c.args.pool.now _ c.as_figure.ensures c.count_kinds-searched.ensures c.count_kinds-seated.ensures)
    ∙ sym (ap (λ known. told_figures (reduction_figures c.args.pool.now) (tells known)) c.in-Ok.is)

pub returns-in-Err : goal.returns-in-Err
returns-in-Err c =
    c.put_refusal.ensures ∙ sym (ap (λ known. told_figures (reduction_figures c.args.pool.now) (tells known)) c.in-Err.is)
