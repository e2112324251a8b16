-- Omitted passes; else the chooser must be there.
use mathlib.Core.Path.{sym, ◌∙◌}
use Rattle.roster_rows.proofs.KindLaws.{or_first, or_next}
use Rattle.roster_rows.proofs.assignment.keeps_chooser_in.Goals as goal

pub returns-then-is_omitted : goal.returns-then-is_omitted
returns-then-is_omitted c =
    or_first _ (sym c.is_omitted.ensures ∙ c.if-is_omitted.true)

pub returns : goal.returns
returns c =
    c.seated.ensures ∙ or_next _ (sym c.is_omitted.ensures ∙ c.if-is_omitted.false)
