-- Either one omitted passes; else the lists decide.
use mathlib.Core.Path.{sym, ◌∙◌}
use Rattle.roster_rows.proofs.KindLaws.{or_left, or_middle, or_last}
use Rattle.roster_rows.proofs.assignment.keeps_same_choosers.Goals as goal

pub returns-then-is_omitted : goal.returns-then-is_omitted
returns-then-is_omitted c =
    or_left _ _ (sym c.is_omitted.ensures ∙ c.if-is_omitted.true)

pub returns-then-is_omitted-2 : goal.returns-then-is_omitted-2
returns-then-is_omitted-2 c =
    or_middle _ _ (sym c.is_omitted.ensures ∙ c.if-is_omitted.false) (sym c.is_omitted-2.ensures ∙ c.if-is_omitted-2.true)

pub returns : goal.returns
returns c =
    c.same_choosers.ensures ∙ or_last _ _ (sym c.is_omitted.ensures ∙ c.if-is_omitted.false) (sym c.is_omitted-2.ensures ∙ c.if-is_omitted-2.false)
