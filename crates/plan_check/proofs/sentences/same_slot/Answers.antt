-- For each of the two choices past the plan's end 255, within it the byte.
use mathlib.Core.Path.{ap₂}
use Prim.Native.Nat.{ℕ}
use lib.Dec.{eqb}
use Rattle.plan_check.proofs.PlanLaws.{slot-past, slot-at}
use Rattle.plan_check.proofs.sentences.same_slot.Goals as goal

pub returns-then-plan-from : goal.returns-then-plan-from
returns-then-plan-from c =
    ap₂ (λ (x y : ℕ). eqb x y) (slot-past _ _ c.if-plan-from.true) c.slot_of.ensures

pub returns-then-plan-to : goal.returns-then-plan-to
returns-then-plan-to c =
    ap₂ (λ (x y : ℕ). eqb x y) (slot-at _ _ c.if-plan-from.false) (slot-past _ _ c.if-plan-to.true)

pub returns : goal.returns
returns c =
    ap₂ (λ (x y : ℕ). eqb x y) (slot-at _ _ c.if-plan-from.false) (slot-at _ _ c.if-plan-to.false)
