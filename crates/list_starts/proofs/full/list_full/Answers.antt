-- A full start that is a node: a slot isn't filled, a row isn't kept, or one plan more.
use mathlib.Core.Path.{sym, ◌∙◌}
use Rattle.list_starts.proofs.FullLaws.{not-passed, has-passed, full_unfilled, full-rows}
use Rattle.list_starts.proofs.full.list_full.Goals as goal

pub returns-then-not-slots_filled : goal.returns-then-not-slots_filled
returns-then-not-slots_filled c =
    not-passed _ _ _ _ _ (full_unfilled _ _ _ _ _ (sym c.slots_filled.ensures ∙ c.if-not-slots_filled.true))

pub returns-then-not-keeps_every_row : goal.returns-then-not-keeps_every_row
returns-then-not-keeps_every_row c =
    not-passed _ _ _ _ _ (sym (c.keeps_every_row.ensures ∙ full-rows _ _ _ _ _ (sym c.slots_filled.ensures ∙ c.if-not-slots_filled.false)) ∙ c.if-not-keeps_every_row.true)

pub returns : goal.returns
returns c =
    has-passed _ _ _ _ _ (sym (c.keeps_every_row.ensures ∙ full-rows _ _ _ _ _ (sym c.slots_filled.ensures ∙ c.if-not-slots_filled.false)) ∙ c.if-not-keeps_every_row.false) c.number_plan.ensures.0 c.number_plan.ensures.1
