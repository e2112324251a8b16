-- Under the low end there is nothing; else the high end decides.
use Rattle.list_rule_slots.proofs.StepLaws.{between-under, between-by}
use Rattle.list_rule_slots.proofs.limits.between.Goals as goal

pub returns-then-number-low : goal.returns-then-number-low
returns-then-number-low c =
    between-under _ _ _ c.if-number-low.true

pub returns : goal.returns
returns c =
    between-by _ _ _ c.if-number-low.false
