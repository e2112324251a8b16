-- The minimum is taken from H, or is over it.
use Rattle.list_rule_slots.proofs.StepLaws.{sum_over, sum_by}
use Rattle.list_rule_slots.proofs.sums.sum_fits.Goals as goal

pub returns-then-whole-other : goal.returns-then-whole-other
returns-then-whole-other c =
    sum_over _ _ _ c.if-whole-other.true

pub returns : goal.returns
returns c =
    sum_by _ _ _ c.if-whole-other.false
