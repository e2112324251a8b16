-- Each kind's arm is its rule; one of another kind takes nothing away.
use mathlib.Core.Path.{sym, ◌∙◌}
use Rattle.list_rule_rows.proofs.SideLaws.{none_of, row_in-slot, row-not_in_slot, row-same-slot, row-not-same-slot, row-offset, row_other}
use Rattle.list_rule_rows.proofs.narrow.narrow_by_row.Goals as goal

pub returns-in-1 : goal.returns-in-1
returns-in-1 c = c.narrow_by_slot.ensures ∙ row_in-slot _ _ _ _ (sym c.kind_of.ensures ∙ c.in-1.is)

pub returns-in-2 : goal.returns-in-2
returns-in-2 c = c.narrow_by_slot-in-2.ensures ∙ row-not_in_slot _ _ _ _ (sym c.kind_of.ensures ∙ c.in-2.is)

pub returns-in-3 : goal.returns-in-3
returns-in-3 c = c.narrow_between.ensures ∙ row-same-slot _ _ _ _ (sym c.kind_of.ensures ∙ c.in-3.is)

pub returns-in-4 : goal.returns-in-4
returns-in-4 c = c.narrow_between-in-4.ensures ∙ row-not-same-slot _ _ _ _ (sym c.kind_of.ensures ∙ c.in-4.is)

pub returns-in-5 : goal.returns-in-5
returns-in-5 c = c.narrow_between-in-5.ensures ∙ row-offset _ _ _ _ (sym c.kind_of.ensures ∙ c.in-5.is)

pub returns-in_default : goal.returns-in_default
returns-in_default c = let r = c.in_default.in_default-own.rest in let e = c.kind_of.ensures in row_other _ _ _ _ (none_of e r.0.0.0.0.1) (none_of e r.0.0.0.1) (none_of e r.0.0.1) (none_of e r.0.1) (none_of e r.1)
