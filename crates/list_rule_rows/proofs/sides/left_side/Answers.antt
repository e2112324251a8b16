-- Each kind's arm is its rule; one of another kind takes nothing away.
use mathlib.Core.Path.{sym, ◌∙◌}
use Rattle.list_rule_rows.proofs.SideLaws.{none_of, left-same, left-apart, left-offset, left_other}
use Rattle.list_rule_rows.proofs.sides.left_side.Goals as goal

pub returns-in-3 : goal.returns-in-3
returns-in-3 c = c.both.ensures ∙ left-same _ _ _ _ (sym c.kind_of.ensures ∙ c.in-3.is)

pub returns-in-4 : goal.returns-in-4
returns-in-4 c = c.apart_from.ensures ∙ left-apart _ _ _ _ (sym c.kind_of.ensures ∙ c.in-4.is)

pub returns-in-5 : goal.returns-in-5
returns-in-5 c = c.left_by_offset.ensures ∙ left-offset _ _ _ _ _ c.extra_of.ensures (sym c.kind_of.ensures ∙ c.in-5.is)

pub returns-in_default : goal.returns-in_default
returns-in_default c = let r = c.in_default.in_default-own.rest in let e = c.kind_of.ensures in left_other _ _ _ _ (none_of e r.0.0.1) (none_of e r.0.1) (none_of e r.1)
