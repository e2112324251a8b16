-- A day of another shape has no bounds.
use mathlib.Core.Path.{◌∙◌}
use Rattle.list_rule_counts.proofs.BoundLaws.{broken-many-choices, wants-many-choices, rooms_many_choices, broken-many-slots, wants-many-slots, rooms_many_slots, broken-from, wants-from}
use Rattle.list_rule_counts.proofs.bounds.bounds_of.Goals as goal

pub returns-then-counts-gt64 : goal.returns-then-counts-gt64
returns-then-counts-gt64 c =
    let h = c.if-counts-gt64.true in let e = c.no_bounds.ensures in
    record { broken_value = e.broken_value ∙ broken-many-choices _ _ _ _ _ _ h; wants_value = e.wants_value.0 ∙ wants-many-choices _ _ _ _ _ _ h; rooms_value = e.wants_value.1 ∙ rooms_many_choices _ _ _ h }

pub returns-then-counts-gt24 : goal.returns-then-counts-gt24
returns-then-counts-gt24 c =
    let k = c.if-counts-gt64.false in let h = c.if-counts-gt24.true in let e = c.no_bounds-then-counts-gt24.ensures in
    record { broken_value = e.broken_value ∙ broken-many-slots _ _ _ _ _ _ k h; wants_value = e.wants_value.0 ∙ wants-many-slots _ _ _ _ _ _ k h; rooms_value = e.wants_value.1 ∙ rooms_many_slots _ _ _ k h }

pub returns : goal.returns
returns c =
    let f = c.first_in-from.ensures.0 in let e = c.fitting_bounds.ensures in
    record { broken_value = broken-from _ _ _ _ _ _ _ _ f e.broken_value; wants_value = wants-from _ _ _ _ _ _ _ _ f e.wants_value; rooms_value = e.rooms_value }
