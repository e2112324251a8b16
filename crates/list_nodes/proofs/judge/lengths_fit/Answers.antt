-- Each slice's length in its turn.
use mathlib.Core.Path.{◌∙◌}
use Rattle.list_nodes.proofs.JudgeLaws.{mins_differ, maxs_differ, optional_differ, rows_differ, buffer-decides}
use Rattle.list_nodes.proofs.judge.lengths_fit.Goals as goal

pub returns-then-day-counts : goal.returns-then-day-counts
returns-then-day-counts c =
    mins_differ _ _ _ c.if-day-counts.true

pub returns-then-day-counts-2 : goal.returns-then-day-counts-2
returns-then-day-counts-2 c =
    maxs_differ _ _ _ c.if-day-counts.false c.if-day-counts-2.true

pub returns-then-day-counts-3 : goal.returns-then-day-counts-3
returns-then-day-counts-3 c =
    optional_differ _ _ _ c.if-day-counts.false c.if-day-counts-2.false c.if-day-counts-3.true

pub returns-then-day-counts-4 : goal.returns-then-day-counts-4
returns-then-day-counts-4 c =
    rows_differ _ _ _ c.if-day-counts.false c.if-day-counts-2.false c.if-day-counts-3.false c.if-day-counts-4.true

pub returns : goal.returns
returns c =
    c.buffer_fits.ensures ∙ buffer-decides _ _ _ c.if-day-counts.false c.if-day-counts-2.false c.if-day-counts-3.false c.if-day-counts-4.false
