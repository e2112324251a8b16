-- Each test of a walk that may start in its turn.
use mathlib.Core.Path.{sym, ◌∙◌}
use Rattle.list_starts.proofs.ReadyLaws.{out_of_range, mins_differ, maxs_differ, optional_differ, buffer-differs, numbers-end, page-decides}
use Rattle.list_starts.proofs.ready.is_ready.Goals as goal

pub returns-then-not-counts_in_range : goal.returns-then-not-counts_in_range
returns-then-not-counts_in_range c =
    out_of_range _ _ _ _ _ _ (sym c.counts_in_range.ensures ∙ c.if-not-counts_in_range.true)

pub returns-then-day-counts : goal.returns-then-day-counts
returns-then-day-counts c =
    mins_differ _ _ _ _ _ _ (sym c.counts_in_range.ensures ∙ c.if-not-counts_in_range.false) c.if-day-counts.true

pub returns-then-day-counts-2 : goal.returns-then-day-counts-2
returns-then-day-counts-2 c =
    maxs_differ _ _ _ _ _ _ (sym c.counts_in_range.ensures ∙ c.if-not-counts_in_range.false) c.if-day-counts.false c.if-day-counts-2.true

pub returns-then-day-counts-3 : goal.returns-then-day-counts-3
returns-then-day-counts-3 c =
    optional_differ _ _ _ _ _ _ (sym c.counts_in_range.ensures ∙ c.if-not-counts_in_range.false) c.if-day-counts.false c.if-day-counts-2.false c.if-day-counts-3.true

pub returns-then-not-buffer_fits : goal.returns-then-not-buffer_fits
returns-then-not-buffer_fits c =
    buffer-differs _ _ _ _ _ _ (sym c.counts_in_range.ensures ∙ c.if-not-counts_in_range.false) c.if-day-counts.false c.if-day-counts-2.false c.if-day-counts-3.false (sym c.buffer_fits.ensures ∙ c.if-not-buffer_fits.true)

pub returns-then-turns-met : goal.returns-then-turns-met
returns-then-turns-met c =
    numbers-end _ _ _ _ _ _ (sym c.counts_in_range.ensures ∙ c.if-not-counts_in_range.false) c.if-day-counts.false c.if-day-counts-2.false c.if-day-counts-3.false (sym c.buffer_fits.ensures ∙ c.if-not-buffer_fits.false) c.if-turns-met.true

pub returns : goal.returns
returns c =
    c.goes_on.ensures ∙ page-decides _ _ _ _ _ _ (sym c.counts_in_range.ensures ∙ c.if-not-counts_in_range.false) c.if-day-counts.false c.if-day-counts-2.false c.if-day-counts-3.false (sym c.buffer_fits.ensures ∙ c.if-not-buffer_fits.false) c.ranges.met.fits c.if-turns-met.false
