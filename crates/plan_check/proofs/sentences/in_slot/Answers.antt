-- Past the plan's end 255 is compared, within it the byte.
use mathlib.Core.Path.{◌∙◌, ap, ap₂}
use Prim.Native.Nat.{ℕ}
use native.Mathlib.Omega.{arith}
use lib.Dec.{eqb}
use Rattle.plan_check.specs.Plan.{slot_of}
use Rattle.plan_check.proofs.PlanLaws.{slot-past, slot-at}
use Rattle.plan_check.proofs.sentences.in_slot.Goals as goal

pub returns-then-plan-at : goal.returns-then-plan-at
returns-then-plan-at c =
    ap₂ (λ (x y : ℕ). eqb x y) (slot-past _ _ c.if-plan-at.true ∙ ap (slot_of _) c.left_of-at.ensures) c.right_of.ensures

pub overflow_cast-result-2 : goal.overflow_cast-result-2
overflow_cast-result-2 c =
    omega (arith, c.type_inv.plan c.left_of-at.result)

pub returns : goal.returns
returns c =
    ap₂ (λ (x y : ℕ). eqb x y) (slot-at _ _ c.if-plan-at.false ∙ ap (slot_of _) c.left_of-at.ensures) c.right_of-2.ensures
