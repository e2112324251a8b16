-- The shapes, one test after the other, and then the passes.
use Rattle.plan_check.specs.Day.{day_lent}
use mathlib.Core.Path.{sym, ◌∙◌}
use Rattle.plan_check.proofs.FeasibleLaws.{many-choices, many-slots, bad_lengths, worker_agrees, shapes}
use Rattle.plan_check.proofs.feasible.is_feasible.Goals as goal

pub returns-then-day-gt64 : goal.returns-then-day-gt64
returns-then-day-gt64 c =
    many-choices _ _ c.if-day-gt64.true

pub returns-then-day-gt24 : goal.returns-then-day-gt24
returns-then-day-gt24 c =
    many-slots _ _ c.if-day-gt64.false c.if-day-gt24.true

pub returns-then-not-lengths_fit : goal.returns-then-not-lengths_fit
returns-then-not-lengths_fit c =
    bad_lengths _ _ c.if-day-gt64.false c.if-day-gt24.false (sym c.lengths_fit.ensures ∙ c.if-not-lengths_fit.true)

pub passes-requires : goal.passes-requires
passes-requires c =
    shapes (day_lent c.args.day.now) _ c.if-day-gt64.false c.if-day-gt24.false (sym c.lengths_fit.ensures ∙ c.if-not-lengths_fit.false)

pub returns : goal.returns
returns c =
    c.passes.ensures ∙ worker_agrees _ _ c.if-day-gt64.false c.if-day-gt24.false (sym c.lengths_fit.ensures ∙ c.if-not-lengths_fit.false)
