-- Below 1, or what 64 says.
use Rattle.sets_analysis.proofs.DaySteps.{no_levels, levels_decide}
use Rattle.sets_analysis.proofs.day.levels_in_range.Goals as goal

pub returns-then-levels-lt1 : goal.returns-then-levels-lt1
returns-then-levels-lt1 c = no_levels _ c.if-levels-lt1.true

pub returns : goal.returns
returns c = levels_decide _ c.if-levels-lt1.false
