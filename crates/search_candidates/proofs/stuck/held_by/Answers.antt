use mathlib.Core.Path.{◌∙◌, ap}
use lib.ListN.{set}
use native.Mathlib.Omega.{arith}
use Rattle.search_candidates.proofs.StuckLaws.{held_start, held_in, held_out}
use Rattle.search_candidates.proofs.stuck.held_by.Goals as goal

pub loop-choice-init : goal.loop-choice-init
loop-choice-init c = c.requires.1 ∙ held_start _

pub loop-choice-preserved-then-slot-ge24 : goal.loop-choice-preserved-then-slot-ge24
loop-choice-preserved-then-slot-ge24 c = held_out _ _ _ _ _ c.loop-choice.invariant c.decision_of.ensures _ c.from-slot.ensures c.if-slot-ge24.true

pub loop-choice-preserved : goal.loop-choice-preserved
loop-choice-preserved c = ap (λ x. set c.loop-choice.held c.from-slot.result x) c.with.ensures
    ∙ held_in _ _ c.loop-choice.choice _ _ c.loop-choice.invariant c.decision_of.ensures _ (omega (arith, c.loop-choice-test.true, c.requires.0)) c.from-slot.ensures c.if-slot-ge24.false
