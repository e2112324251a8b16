-- Each op's arm has the key that it matched; past them all, none of the six.
use mathlib.Core.Path.{◌∙◌}
use Rattle.list_rule_slots.proofs.StepLaws.{can_eq, can_neq, can_gt, can_lt, can_geq, can_leq, can-not}
use Rattle.list_rule_slots.proofs.limits.op_can.Goals as goal

pub returns-in-32769 : goal.returns-in-32769
returns-in-32769 c =
    c.between.ensures ∙ can_eq _ _ _ _ c.in-32769.is

pub returns-in-32767 : goal.returns-in-32767
returns-in-32767 c =
    c.another.ensures ∙ can_neq _ _ _ _ c.in-32767.is

pub returns-in-32770 : goal.returns-in-32770
returns-in-32770 c =
    can_gt _ _ _ _ c.in-32770.is

pub returns-in-32765 : goal.returns-in-32765
returns-in-32765 c =
    can_lt _ _ _ _ c.in-32765.is

pub returns-in-32771 : goal.returns-in-32771
returns-in-32771 c =
    can_geq _ _ _ _ c.in-32771.is

pub returns-in-32766 : goal.returns-in-32766
returns-in-32766 c =
    can_leq _ _ _ _ c.in-32766.is

pub returns-in_default : goal.returns-in_default
returns-in_default c =
    let r = c.in_default.in_default-own.rest in
    can-not _ _ _ _ r.0.0.0.0.0.1 r.0.0.0.0.1 r.0.0.0.1 r.0.0.1 r.0.1 r.1
