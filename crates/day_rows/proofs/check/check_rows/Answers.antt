-- The call is its three tests in the definition's order.
use mathlib.Core.Path.{sym, ◌∙◌}
use Rattle.day_rows.proofs.CheckLaws.{call_count, call_length, call_rows}
use Rattle.day_rows.proofs.check.check_rows.Goals as goal

pub returns-then-not-counts_in_range : goal.returns-then-not-counts_in_range
returns-then-not-counts_in_range c =
    call_count _ _ _ (sym c.counts_in_range.ensures ∙ c.if-not-counts_in_range.true)

pub returns-then-rows-counts : goal.returns-then-rows-counts
returns-then-rows-counts c =
    call_length _ _ _ (sym c.counts_in_range.ensures ∙ c.if-not-counts_in_range.false) c.if-rows-counts.true

pub returns : goal.returns
returns c =
    c.check_each_row.ensures ∙ call_rows _ _ _ (sym c.counts_in_range.ensures ∙ c.if-not-counts_in_range.false) c.if-rows-counts.false
