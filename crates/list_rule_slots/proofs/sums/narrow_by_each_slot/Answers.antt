-- The sums that the code has are those of the rule.
use Rattle.list_rule_slots.proofs.SumLaws.{left_by_lem}
use Rattle.list_rule_slots.proofs.sums.narrow_by_each_slot.Goals as goal

pub returns : goal.returns
returns c =
    left_by_lem _ _ _ _ _ _ _ c.add_choices.ensures c.narrow_each_choice.ensures
