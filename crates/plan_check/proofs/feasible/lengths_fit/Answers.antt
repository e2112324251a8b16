-- Each early return has one length that differs and those before it as they should be.
use Rattle.plan_check.proofs.CheckLaws.{mins_differ, maxs_differ, optional_differ, plan-decides}
use Rattle.plan_check.proofs.feasible.lengths_fit.Goals as goal

pub returns-then-day-choices : goal.returns-then-day-choices
returns-then-day-choices c =
    mins_differ _ _ _ _ _ c.if-day-choices.true

pub returns-then-day-choices-2 : goal.returns-then-day-choices-2
returns-then-day-choices-2 c =
    maxs_differ _ _ _ _ _ c.if-day-choices.false c.if-day-choices-2.true

pub returns-then-day-choices-3 : goal.returns-then-day-choices-3
returns-then-day-choices-3 c =
    optional_differ _ _ _ _ _ c.if-day-choices.false c.if-day-choices-2.false c.if-day-choices-3.true

pub returns : goal.returns
returns c =
    plan-decides _ _ _ _ _ c.if-day-choices.false c.if-day-choices-2.false c.if-day-choices-3.false
