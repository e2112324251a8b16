use native.Mathlib.Omega.{arith}
use Rattle.list_look.proofs.SlotLaws.{after-step, after-end}
use Rattle.list_look.proofs.open.weight_after.Goals as goal

pub loop-choice-init : goal.loop-choice-init
loop-choice-init c =
    (omega arith, omega arith)

pub loop-choice-preserved : goal.loop-choice-preserved
loop-choice-preserved c =
    (omega (arith, c.loop-choice.invariant.0, c.weight_of-spare.ensures.1), after-step _ _ _ _ _ _ c.loop-choice-test.true c.weight_of-spare.ensures.0 c.loop-choice.invariant.1)

pub returns : goal.returns
returns c =
    (after-end _ _ _ _ _ c.loop-choice-test.false c.loop-choice.invariant.1, omega (arith, c.loop-choice-test.false, c.loop-choice.invariant.0, c.requires))
