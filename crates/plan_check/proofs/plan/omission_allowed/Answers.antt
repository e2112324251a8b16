-- Another byte than 255 is no omission; 255 goes by the flag.
use Rattle.plan_check.proofs.PlanLaws.{omission_not, omission_flag}
use Rattle.plan_check.proofs.plan.omission_allowed.Goals as goal

pub returns-then-place-ne-OMITTED : goal.returns-then-place-ne-OMITTED
returns-then-place-ne-OMITTED c =
    omission_not _ _ c.if-place-ne-OMITTED.true

pub returns : goal.returns
returns c =
    omission_flag _ _ c.if-place-ne-OMITTED.false
