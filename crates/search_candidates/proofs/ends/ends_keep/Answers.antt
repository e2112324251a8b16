-- Each kind's arm is its sentence of the two places.
use mathlib.Core.Path.{sym, ◌∙◌}
use Rattle.search_candidates.proofs.CaseLaws.{keep_same, keep_differ, keep-offset, keep-none, none_of}
use Rattle.search_candidates.proofs.ends.ends_keep.Goals as goal

pub returns-in-3 : goal.returns-in-3
returns-in-3 c =
    sym (keep_same _ _ _ (sym c.kind_of.ensures ∙ c.in-3.is))

pub returns-in-4 : goal.returns-in-4
returns-in-4 c =
    c.ends_differ.ensures ∙ sym (keep_differ _ _ _ (sym c.kind_of.ensures ∙ c.in-4.is))

pub returns-in-5 : goal.returns-in-5
returns-in-5 c =
    c.ends_have_offset.ensures ∙ rw c.extra_of.ensures (sym (keep-offset _ _ _ (sym c.kind_of.ensures ∙ c.in-5.is)))

pub returns-in_default : goal.returns-in_default
returns-in_default c =
    let r = c.in_default.in_default-own.rest in
    let e = c.kind_of.ensures in
    sym (keep-none _ _ _ (none_of e r.0.0.1) (none_of e r.0.1) (none_of e r.1))
