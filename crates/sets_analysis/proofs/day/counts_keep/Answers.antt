-- The counts, one test after the other.
use Rattle.sets_analysis.proofs.DaySteps.{many-choices, many-slots, many-choosers, levels-last}
use Rattle.sets_analysis.proofs.day.counts_keep.Goals as goal

pub returns-then-counts-gt64 : goal.returns-then-counts-gt64
returns-then-counts-gt64 c = many-choices _ c.if-counts-gt64.true

pub returns-then-counts-gt24 : goal.returns-then-counts-gt24
returns-then-counts-gt24 c = many-slots _ c.if-counts-gt64.false c.if-counts-gt24.true

pub returns-then-counts-gt200 : goal.returns-then-counts-gt200
returns-then-counts-gt200 c =
    many-choosers _ c.if-counts-gt64.false c.if-counts-gt24.false c.if-counts-gt200.true

pub returns : goal.returns
returns c =
    levels-last _ c.if-counts-gt64.false c.if-counts-gt24.false c.if-counts-gt200.false c.levels_in_range.ensures
