-- Each op's arm has the key that it matched; past them all, none of the six.
use mathlib.Core.Path.{sym}
use Rattle.plan_check.proofs.RowLaws.{op_eq, op_neq, op_gt, op_lt, op_geq, op_leq, op_other}
use Rattle.plan_check.proofs.sentences.op_holds.Goals as goal

pub returns-in-32769 : goal.returns-in-32769
returns-in-32769 c =
    sym (op_eq _ _ _ c.in-32769.is)

pub returns-in-32767 : goal.returns-in-32767
returns-in-32767 c =
    sym (op_neq _ _ _ c.in-32767.is)

pub returns-in-32770 : goal.returns-in-32770
returns-in-32770 c =
    sym (op_gt _ _ _ c.in-32770.is)

pub returns-in-32765 : goal.returns-in-32765
returns-in-32765 c =
    sym (op_lt _ _ _ c.in-32765.is)

pub returns-in-32771 : goal.returns-in-32771
returns-in-32771 c =
    sym (op_geq _ _ _ c.in-32771.is)

pub returns-in-32766 : goal.returns-in-32766
returns-in-32766 c =
    sym (op_leq _ _ _ c.in-32766.is)

pub returns-in_default : goal.returns-in_default
returns-in_default c =
    let r = c.in_default.in_default-own.rest in
    sym (op_other _ _ _ r.0.0.0.0.0.1 r.0.0.0.0.1 r.0.0.0.1 r.0.0.1 r.0.1 r.1)
