-- Each return is one law: the tests before it hold, and its own does not.
use mathlib.Core.Path.{sym, ◌∙◌}
use Rattle.search_map.proofs.Filling.{own-count, own-rows_differ, own-short, own-rows}
use Rattle.search_map.proofs.own_map.judge.Goals as goal

pub returns-then-not-counts_in_range : goal.returns-then-not-counts_in_range
returns-then-not-counts_in_range c =
    own-count _ _ _ (sym c.counts_in_range.ensures ∙ c.if-not-counts_in_range.true)

pub returns-then-rows-counts : goal.returns-then-rows-counts
returns-then-rows-counts c =
    own-rows_differ _ _ _ (sym c.counts_in_range.ensures ∙ c.if-not-counts_in_range.false) c.if-rows-counts.true

pub returns-then-not-is_full : goal.returns-then-not-is_full
returns-then-not-is_full c =
    own-short _ _ _ (sym c.counts_in_range.ensures ∙ c.if-not-counts_in_range.false) c.if-rows-counts.false (sym c.is_full.ensures ∙ c.if-not-is_full.true)

pub returns : goal.returns
returns c =
    c.check_each_row.ensures ∙ own-rows _ _ _ (sym c.counts_in_range.ensures ∙ c.if-not-counts_in_range.false) c.if-rows-counts.false (sym c.is_full.ensures ∙ c.if-not-is_full.false)
