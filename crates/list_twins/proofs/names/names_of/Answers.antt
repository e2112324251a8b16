-- Each kind's arm is its rule; one of another kind names no slot.
use mathlib.Core.Path.{sym, ◌∙◌}
use Rattle.list_twins.proofs.NameLaws.{only_set, names_in_slot, names-not_in_slot, names-same-slot, names-not-same-slot, names-offset, names-limit, names-none, none_of}
use Rattle.list_twins.proofs.names.names_of.Goals as goal

pub returns-in-1 : goal.returns-in-1
returns-in-1 c =
    only_set _ _ _ c.right_of.ensures c.only.ensures ∙ names_in_slot _ _ (sym c.kind_of.ensures ∙ c.in-1.is)

pub returns-in-2 : goal.returns-in-2
returns-in-2 c =
    only_set _ _ _ c.right_of-in-2.ensures c.only-in-2.ensures ∙ names-not_in_slot _ _ (sym c.kind_of.ensures ∙ c.in-2.is)

pub returns-in-3 : goal.returns-in-3
returns-in-3 c =
    c.of_places.ensures ∙ names-same-slot _ _ (sym c.kind_of.ensures ∙ c.in-3.is)

pub returns-in-4 : goal.returns-in-4
returns-in-4 c =
    c.of_places-in-4.ensures ∙ names-not-same-slot _ _ (sym c.kind_of.ensures ∙ c.in-4.is)

pub returns-in-5 : goal.returns-in-5
returns-in-5 c =
    c.of_offset.ensures ∙ names-offset _ _ (sym c.kind_of.ensures ∙ c.in-5.is)

pub returns-in-6 : goal.returns-in-6
returns-in-6 c =
    only_set _ _ _ c.left_of.ensures c.of_limit.ensures ∙ names-limit _ _ (sym c.kind_of.ensures ∙ c.in-6.is)

pub returns-in_default : goal.returns-in_default
returns-in_default c =
    let r = c.in_default.in_default-own.rest in let e = c.kind_of.ensures in names-none _ _ (none_of e r.0.0.0.0.0.1) (none_of e r.0.0.0.0.1) (none_of e r.0.0.0.1) (none_of e r.0.0.1) (none_of e r.0.1) (none_of e r.1)
