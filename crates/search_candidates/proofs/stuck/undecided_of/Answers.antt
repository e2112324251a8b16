use mathlib.Core.Path.{◌∙◌}
use native.Mathlib.Omega.{arith}
use Rattle.search_candidates.proofs.StuckLaws.{undecided-start, undecided_in, undecided-out}
use Rattle.search_candidates.proofs.stuck.undecided_of.Goals as goal

pub loop-choice-init : goal.loop-choice-init
loop-choice-init c = undecided-start _

pub loop-choice-preserved-then-decision_of : goal.loop-choice-preserved-then-decision_of
loop-choice-preserved-then-decision_of c = undecided-out _ _ _ _ c.loop-choice.invariant c.decision_of.ensures c.if-decision_of.true

pub loop-choice-preserved : goal.loop-choice-preserved
loop-choice-preserved c = c.with-undecided.ensures ∙ undecided_in _ c.loop-choice.choice _ _ (omega (arith, c.loop-choice-test.true, c.requires)) c.loop-choice.invariant c.decision_of.ensures c.if-decision_of.false
