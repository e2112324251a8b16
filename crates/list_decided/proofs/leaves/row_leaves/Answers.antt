-- Each kind's arm is its rule; a row of another kind takes no place away.
use mathlib.Core.Path.{sym, ◌∙◌}
use Rattle.list_decided.proofs.LeavesLaws.{none_of, leaves_in_slot, leaves-not_in_slot, leaves-same-slot, leaves-not-same-slot, leaves-offset, leaves_all}
use Rattle.list_decided.proofs.leaves.row_leaves.Goals as goal

pub returns-in-1 : goal.returns-in-1
returns-in-1 c =
    c.kept.ensures ∙ leaves_in_slot _ _ _ _ _ _ c.right_of-right.ensures (sym c.kind_of.ensures ∙ c.in-1.is)

pub returns-in-2 : goal.returns-in-2
returns-in-2 c =
    c.kept-in-2.ensures ∙ leaves-not_in_slot _ _ _ _ _ _ c.right_of-right.ensures (sym c.kind_of.ensures ∙ c.in-2.is)

pub returns-in-3 : goal.returns-in-3
returns-in-3 c =
    c.beside.ensures ∙ leaves-same-slot _ _ _ _ _ _ c.other_place-place.ensures (sym c.kind_of.ensures ∙ c.in-3.is)

pub returns-in-4 : goal.returns-in-4
returns-in-4 c =
    c.apart_from.ensures ∙ leaves-not-same-slot _ _ _ _ _ _ c.other_place-place.ensures (sym c.kind_of.ensures ∙ c.in-4.is)

pub returns-in-5 : goal.returns-in-5
returns-in-5 c =
    c.by_offset.ensures ∙ leaves-offset _ _ _ _ _ _ _ _ c.left_of.ensures c.other_place-place.ensures c.extra_of.ensures (sym c.kind_of.ensures ∙ c.in-5.is)

pub returns-in_default : goal.returns-in_default
returns-in_default c =
    let r = c.in_default.in_default-own.rest in
    let e = c.kind_of.ensures in
    leaves_all _ _ _ _ _ (none_of e r.0.0.0.0.1) (none_of e r.0.0.0.1) (none_of e r.0.0.1) (none_of e r.0.1) (none_of e r.1)
