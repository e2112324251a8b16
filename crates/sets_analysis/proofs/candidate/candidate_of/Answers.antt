use native.Mathlib.Omega.{arith}
use Rattle.sets_analysis.proofs.KeptSteps.{looked-start, looked-past, looked_in, looked-all}
use borrow.Author.Rules.{rules}
use Rattle.sets_analysis.proofs.candidate.candidate_of.Goals as goal

pub loop-choice-init : goal.loop-choice-init
loop-choice-init c = (search rules, search rules, looked-start _ _ _ _)

pub loop-choice-preserved-then-level-preferences : goal.loop-choice-preserved-then-level-preferences
loop-choice-preserved-then-level-preferences c =
    (search rules, omega (arith, c.loop-choice.invariant.1), looked-past _ _ _ _ _ _ _ c.loop-choice.invariant.2 c.if-level-preferences.true)

pub overflow_add-min_sum : goal.overflow_add-min_sum
overflow_add-min_sum c =
    omega (arith, c.loop-choice.invariant.1, c.loop-choice-test.true, c.requires.0)

pub loop-choice-preserved : goal.loop-choice-preserved
loop-choice-preserved c =
    (search rules, omega (arith, c.loop-choice.invariant.1), looked_in _ _ _ _ _ _ _ c.loop-choice.invariant.2 _ _ c.if-level-preferences.false (omega (arith, c.loop-choice-test.true, c.requires.0)) c.with-members.ensures c.from-min_sum.ensures)

pub returns : goal.returns
returns c =
    looked-all _ _ _ _ _ _ _ c.loop-choice.invariant.2 c.loop-choice.invariant.0 c.loop-choice-test.false
