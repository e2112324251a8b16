-- A day with too many slots, one that the tables don't hold, or one that they do.
use mathlib.Core.Path.{sym, ◌∙◌}
use native.Mathlib.Omega.{arith}
use Rattle.list_look.proofs.SlotLaws.{asked_means, open_many, open_unasked, open_asked}
use Rattle.list_look.proofs.open.open_places.Goals as goal

pub returns-then-counts-gt24 : goal.returns-then-counts-gt24
returns-then-counts-gt24 c =
    open_many _ _ _ _ _ _ _ _ _ _ c.if-counts-gt24.true

pub returns-then-not-is_asked : goal.returns-then-not-is_asked
returns-then-not-is_asked c =
    open_unasked _ _ _ _ _ _ _ _ _ _ c.if-counts-gt24.false _ _ c.amount_of.ensures.0 c.flag_of.ensures _ c.is_asked.ensures (c.if-not-is_asked.true) c.fitting_places.ensures

pub overflow_add-from : goal.overflow_add-from
overflow_add-from c =
    let m = asked_means _ _ (sym c.is_asked.ensures ∙ c.if-not-is_asked.false) in omega (arith, m.1.0, m.1.1)

pub weight_after-spare-requires : goal.weight_after-spare-requires
weight_after-spare-requires c =
    let m = asked_means _ _ (sym c.is_asked.ensures ∙ c.if-not-is_asked.false) in (m.1.0, omega (arith, m.1.1))

pub places_left-requires : goal.places_left-requires
places_left-requires c =
    let m = asked_means _ _ (sym c.is_asked.ensures ∙ c.if-not-is_asked.false) in (m.0, omega (arith, m.1.0, m.1.1), c.weight_after-spare.ensures.1)

pub returns : goal.returns
returns c =
    open_asked _ _ _ _ _ _ _ _ _ _ c.if-counts-gt24.false _ _ c.amount_of.ensures.0 c.flag_of.ensures _ _ _ c.is_asked.ensures (c.if-not-is_asked.false) c.amount_of-2.ensures.0 c.weight_after-spare.ensures.0 c.places_left.ensures
