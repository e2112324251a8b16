-- The lengths, one test after the other.
use native.Mathlib.Omega.{arith}
use Rattle.sets_analysis.proofs.DaySteps.{counts-known, product_few, mins_differ, levels_differ, preferences_decide}
use Rattle.sets_analysis.proofs.day.lengths_keep.Goals as goal

pub returns-then-day : goal.returns-then-day
returns-then-day c = mins_differ _ c.if-day.true

pub returns-then-day-2 : goal.returns-then-day-2
returns-then-day-2 c = levels_differ _ c.if-day.false c.if-day-2.true

pub overflow_mul-result : goal.overflow_mul-result
overflow_mul-result c =
    let few = counts-known _ c.requires in
    omega (arith, product_few c.args.day.now.counts.choosers c.args.day.now.counts.choices 200 64 few.choosers few.choices)

pub returns : goal.returns
returns c = preferences_decide _ c.if-day.false c.if-day-2.false
