use native.Mathlib.Omega.{arith}
use Rattle.list_look.proofs.StepLaws.{many_dead, one_dead, all-alive, none_dead, more-alive}
use Rattle.list_look.proofs.alive.is_alive.Goals as goal

pub returns-then-domains-choices : goal.returns-then-domains-choices
returns-then-domains-choices c =
    many_dead _ _ c.if-domains-choices.true

pub loop-choice-init : goal.loop-choice-init
loop-choice-init c =
    none_dead _

pub returns-then-domains-choice-eq0 : goal.returns-then-domains-choice-eq0
returns-then-domains-choice-eq0 c =
    one_dead _ _ c.loop-choice.choice (omega arith) c.if-domains-choice-eq0.true

pub loop-choice-preserved : goal.loop-choice-preserved
loop-choice-preserved c =
    more-alive _ _ c.loop-choice.invariant c.if-domains-choice-eq0.false

pub returns : goal.returns
returns c =
    all-alive _ _ c.loop-choice.choice (omega arith) (omega arith) c.loop-choice.invariant
