-- The passes over slots, seats, and the rows of both lists, one after the other.
use mathlib.Core.Path.{sym, ◌∙◌}
use Rattle.roster_check.proofs.CallLaws.{passes-apart, passes_seats, passes-rows, passes-assignment}
use Rattle.roster_check.proofs.roster_check.passes_all.Goals as goal

pub returns-then-not-all_apart : goal.returns-then-not-all_apart
returns-then-not-all_apart c =
    passes-apart _ (sym c.all_apart.ensures ∙ c.if-not-all_apart.true)

pub all_apart-requires : goal.all_apart-requires
all_apart-requires c = c.requires

pub seats_fit-requires : goal.seats_fit-requires
seats_fit-requires c = c.requires

pub returns-then-not-seats_fit : goal.returns-then-not-seats_fit
returns-then-not-seats_fit c =
    passes_seats _ c.requires (sym c.all_apart.ensures ∙ c.if-not-all_apart.false) (sym c.seats_fit.ensures ∙ c.if-not-seats_fit.true)

pub returns-then-not-keeps_every_row : goal.returns-then-not-keeps_every_row
returns-then-not-keeps_every_row c =
    passes-rows _ c.requires (sym c.all_apart.ensures ∙ c.if-not-all_apart.false) (sym c.seats_fit.ensures ∙ c.if-not-seats_fit.false) (sym c.keeps_every_row.ensures ∙ c.if-not-keeps_every_row.true)

pub returns : goal.returns
returns c =
    c.keeps_assignment_rows.ensures ∙ passes-assignment _ c.requires (sym c.all_apart.ensures ∙ c.if-not-all_apart.false) (sym c.seats_fit.ensures ∙ c.if-not-seats_fit.false) (sym c.keeps_every_row.ensures ∙ c.if-not-keeps_every_row.false)
