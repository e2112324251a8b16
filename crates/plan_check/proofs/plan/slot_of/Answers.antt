-- 255 past the plan's end, or else the choice's byte.
use Rattle.plan_check.proofs.PlanLaws.{slot-past, slot-at}
use Rattle.plan_check.proofs.plan.slot_of.Goals as goal

pub returns-then-plan-at : goal.returns-then-plan-at
returns-then-plan-at c =
    slot-past _ _ c.if-plan-at.true

pub returns : goal.returns
returns c =
    slot-at _ _ c.if-plan-at.false
