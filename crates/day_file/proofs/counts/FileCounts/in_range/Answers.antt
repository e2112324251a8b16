-- The row check's counts come first, then the levels.
use Rattle.day_file.proofs.CountLaws.{keep-rows, keep-none, keep-most}
use Rattle.day_file.proofs.counts.FileCounts.in_range.Goals as goal

pub returns-then-not-counts_in_range : goal.returns-then-not-counts_in_range
returns-then-not-counts_in_range c =
    keep-rows _ c.for_rows.ensures c.counts_in_range.ensures (c.if-not-counts_in_range.true)

pub returns-then-self-lt1 : goal.returns-then-self-lt1
returns-then-self-lt1 c =
    keep-none _ c.for_rows.ensures c.counts_in_range.ensures (c.if-not-counts_in_range.false) c.if-self-lt1.true

pub returns : goal.returns
returns c =
    keep-most _ c.for_rows.ensures c.counts_in_range.ensures (c.if-not-counts_in_range.false) c.if-self-lt1.false
