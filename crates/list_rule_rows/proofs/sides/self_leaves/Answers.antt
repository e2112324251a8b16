-- Each kind's arm is what it leaves; one of another kind takes nothing away.
use mathlib.Core.Path.{sym, ◌∙◌}
use Rattle.list_rule_rows.proofs.SideLaws.{none_of, self_apart, self_offset, self_other}
use Rattle.list_rule_rows.proofs.sides.self_leaves.Goals as goal

pub returns-in-4 : goal.returns-in-4
returns-in-4 c = c.omission_alone.ensures ∙ self_apart _ _ _ (sym c.kind_of.ensures ∙ c.in-4.is)

pub returns-in-5 : goal.returns-in-5
returns-in-5 c = c.own_offset_leaves.ensures ∙ self_offset _ _ _ _ c.extra_of.ensures (sym c.kind_of.ensures ∙ c.in-5.is)

pub returns-in_default : goal.returns-in_default
returns-in_default c = let r = c.in_default.in_default-own.rest in let e = c.kind_of.ensures in self_other _ _ _ (none_of e r.0.1) (none_of e r.1)
