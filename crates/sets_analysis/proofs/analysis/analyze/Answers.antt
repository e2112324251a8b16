-- What is refused, and else the analysis as asked.
use mathlib.Core.Path.{◌∙◌, ap}
use native.Mathlib.Omega.{arith}
use Rattle.day_rows.specs.Told.{outcome}
use Rattle.day_rows.proofs.ToldLaws.{passed_on}
use Rattle.sets_analysis.specs.Calls.{pools}
use Rattle.sets_analysis.proofs.CallSteps.{call_refused, good-fits, call_off, call_on, call_simplified}
use Rattle.sets_analysis.proofs.analysis.analyze.Goals as goal

pub returns-in_err-judge : goal.returns-in_err-judge
returns-in_err-judge c =
    ap (λ told. outcome told (pools c.args.masks.now c.args.set_levels.now)) (passed_on _ _ c.from_residual.ensures.1)
    ∙ call_refused _ _ _ _ c.in_err-judge.ensures

pub clear_past-requires : goal.clear_past-requires
clear_past-requires c =
    (good-fits _ c.args.analysis _ _ c.in_ok-judge.ensures).0

pub analyze_day-requires : goal.analyze_day-requires
analyze_day-requires c =
    good-fits _ c.args.analysis _ _ c.in_ok-judge.ensures

pub analyze_day-requires-in-Simplified : goal.analyze_day-requires-in-Simplified
analyze_day-requires-in-Simplified c =
    good-fits _ c.args.analysis _ _ c.in_ok-judge.ensures

pub shape_of-masks-in-Off : goal.shape_of-masks-in-Off
shape_of-masks-in-Off c = omega (arith, c.masks-1.given)

pub shape_of-set_levels-in-Off : goal.shape_of-set_levels-in-Off
shape_of-set_levels-in-Off c = omega (arith, c.set_levels-1.given)

pub returns-in-Off : goal.returns-in-Off
returns-in-Off c =
    call_off _ _ _ _ c.in_ok-judge.ensures c.in-Off.is c.clear_past.ensures

pub shape_of-masks-in-On : goal.shape_of-masks-in-On
shape_of-masks-in-On c = omega (arith, c.masks-in-On-1.given)

pub shape_of-set_levels-in-On : goal.shape_of-set_levels-in-On
shape_of-set_levels-in-On c = omega (arith, c.set_levels-in-On-1.given)

pub returns-in-On : goal.returns-in-On
returns-in-On c =
    call_on _ _ _ _ c.in_ok-judge.ensures c.in-On.is c.analyze_day.ensures

pub shape_of-masks-in-Simplified : goal.shape_of-masks-in-Simplified
shape_of-masks-in-Simplified c = omega (arith, c.masks-in-Simplified-1.given)

pub shape_of-set_levels-in-Simplified : goal.shape_of-set_levels-in-Simplified
shape_of-set_levels-in-Simplified c = omega (arith, c.set_levels-in-Simplified-1.given)

pub returns-in-Simplified : goal.returns-in-Simplified
returns-in-Simplified c =
    call_simplified _ _ _ _ c.in_ok-judge.ensures c.in-Simplified.is c.analyze_day-in-Simplified.ensures
