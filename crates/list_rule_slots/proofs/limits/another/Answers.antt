-- A low end that differs is another number; else the high end decides.
use Rattle.list_rule_slots.proofs.StepLaws.{another_low, another_high}
use Rattle.list_rule_slots.proofs.limits.another.Goals as goal

pub returns-then-low-number : goal.returns-then-low-number
returns-then-low-number c =
    another_low _ _ _ c.if-low-number.true

pub returns : goal.returns
returns c =
    another_high _ _ _ c.if-low-number.false
