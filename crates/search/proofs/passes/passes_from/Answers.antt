use mathlib.Core.Path.{◌∙◌, ap}
use native.Mathlib.Omega.{arith}
use lib.ListN.{length}
use Rattle.search.proofs.PassSteps.{most-levels, pass-taken}
use Rattle.search.proofs.AlongSteps.{along_start, along_answer, along_on}
use Rattle.search.proofs.passes.passes_from.Goals as goal

pub loop-answer-init : goal.loop-answer-init
loop-answer-init c = along_start _ _ _ _ _ (most-levels _ _ c.requires) c.levels_up_to-above.ensures

pub overflow_add-pass : goal.overflow_add-pass
overflow_add-pass c = let f = c.loop-answer.invariant in omega (arith, f.few-passes, f.within, f.few-levels)

pub shape_of-plan-in-Answer : goal.shape_of-plan-in-Answer
shape_of-plan-in-Answer c = c.plan-1.given ∙ ap length c.loop-answer.invariant.same-plan

pub returns-in-Answer : goal.returns-in-Answer
returns-in-Answer c =
    let f = c.loop-answer.invariant in
    along_answer _ _ _ _ _ _ _ _ _ _ _ f c.begun_by-begun.ensures c.pass_at-passed.result (pass-taken _ _ c.requires _ _ _ _ f.same-plan c.pass_at-passed.ensures) c.after_pass.result c.after_pass.ensures c.in-Answer.is

pub overflow_add-above : goal.overflow_add-above
overflow_add-above c = let f = c.loop-answer.invariant in omega (arith, f.within, f.few-levels)

pub overflow_add-pass-in-loop-answer : goal.overflow_add-pass-in-loop-answer
overflow_add-pass-in-loop-answer c = let f = c.loop-answer.invariant in omega (arith, f.few-passes, f.within, f.few-levels)

pub loop-answer-smaller : goal.loop-answer-smaller
loop-answer-smaller c = let f = c.loop-answer.invariant in omega (arith, f.within)

pub loop-answer-preserved : goal.loop-answer-preserved
loop-answer-preserved c =
    let f = c.loop-answer.invariant in
    along_on _ _ _ _ _ _ _ _ _ _ _ f c.begun_by-begun.ensures c.pass_at-passed.result (pass-taken _ _ c.requires _ _ _ _ f.same-plan c.pass_at-passed.ensures) c.after_pass.result c.after_pass.ensures c.in-On.is c.level_at-limit.ensures
