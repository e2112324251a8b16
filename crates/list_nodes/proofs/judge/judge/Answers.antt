-- Each refusal of the listing in its turn.
use mathlib.Core.Path.{sym, ◌∙◌}
use Rattle.day_rows.proofs.ToldLaws.{passed_on}
use Rattle.list_nodes.proofs.JudgeLaws.{judge_count, judge_length, judge_row, judge_flag, judge_good}
use Rattle.list_nodes.proofs.judge.judge.Goals as goal

pub returns-then-not-counts_in_range : goal.returns-then-not-counts_in_range
returns-then-not-counts_in_range c =
    judge_count _ _ _ (sym c.counts_in_range.ensures ∙ c.if-not-counts_in_range.true)

pub returns-then-not-lengths_fit : goal.returns-then-not-lengths_fit
returns-then-not-lengths_fit c =
    judge_length _ _ _ (sym c.counts_in_range.ensures ∙ c.if-not-counts_in_range.false) (sym c.lengths_fit.ensures ∙ c.if-not-lengths_fit.true)

pub returns-in_err-check_each_row : goal.returns-in_err-check_each_row
returns-in_err-check_each_row c =
    passed_on _ _ c.from_residual.ensures.1
    ∙ judge_row _ _ _ (sym c.counts_in_range.ensures ∙ c.if-not-counts_in_range.false) (sym c.lengths_fit.ensures ∙ c.if-not-lengths_fit.false) c.in_err-check_each_row.ensures

pub returns-then-not-flags_fit : goal.returns-then-not-flags_fit
returns-then-not-flags_fit c =
    judge_flag _ _ _ (sym c.counts_in_range.ensures ∙ c.if-not-counts_in_range.false) (sym c.lengths_fit.ensures ∙ c.if-not-lengths_fit.false) c.in_ok-check_each_row.ensures (sym c.flags_fit.ensures ∙ c.if-not-flags_fit.true)

pub returns : goal.returns
returns c =
    judge_good _ _ _ (sym c.counts_in_range.ensures ∙ c.if-not-counts_in_range.false) (sym c.lengths_fit.ensures ∙ c.if-not-lengths_fit.false) c.in_ok-check_each_row.ensures (sym c.flags_fit.ensures ∙ c.if-not-flags_fit.false)
