-- The counts of the two arrays give the bounds.
use mathlib.Core.Path.{refl}
use Rattle.list_rule_counts.proofs.BoundLaws.{broken-is, wants_are, rooms_are}
use Rattle.list_rule_counts.proofs.bounds.fitting_bounds.Goals as goal

pub returns : goal.returns
returns c =
    let p = c.requires in
    let s = c.settled_counts-settled.ensures.0 in
    let n = refl in
    let u = c.limit_by_rows.ensures.under_after in
    let f = c.least_counts-least.ensures in
    let l = c.limit_by_rows.ensures.least_after in
    record { broken_value = broken-is _ _ _ p.0 p.1 _ s _ _ n u _ _ _ _ _ f l _ c.some_crossed.ensures; wants_value = wants_are _ _ _ p.0 p.1 _ s _ _ n u _ _ _ _ _ f l _ c.each_beyond.ensures; rooms_value = rooms_are _ _ _ p.0 p.1 _ s _ _ n u _ c.each_beyond-2.ensures }
