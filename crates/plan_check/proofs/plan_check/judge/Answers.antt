-- Each return is one law: the tests before it hold, and its own does not.
use mathlib.Core.Path.{sym, ◌∙◌}
use Rattle.plan_check.proofs.CheckLaws.{before-count, before-length, before-rows-length, before-rows}
use Rattle.plan_check.proofs.plan_check.judge.Goals as goal

pub returns-then-not-counts_in_range : goal.returns-then-not-counts_in_range
returns-then-not-counts_in_range c =
    before-count _ _ (sym c.counts_in_range.ensures ∙ c.if-not-counts_in_range.true)

pub returns-then-not-lengths_fit : goal.returns-then-not-lengths_fit
returns-then-not-lengths_fit c =
    before-length _ _ (sym c.counts_in_range.ensures ∙ c.if-not-counts_in_range.false) (sym c.lengths_fit.ensures ∙ c.if-not-lengths_fit.true)

pub returns-then-day : goal.returns-then-day
returns-then-day c =
    before-rows-length _ _ (sym c.counts_in_range.ensures ∙ c.if-not-counts_in_range.false) (sym c.lengths_fit.ensures ∙ c.if-not-lengths_fit.false) c.if-day.true

pub returns : goal.returns
returns c =
    c.check_each_row.ensures ∙ before-rows _ _ (sym c.counts_in_range.ensures ∙ c.if-not-counts_in_range.false) (sym c.lengths_fit.ensures ∙ c.if-not-lengths_fit.false) c.if-day.false
