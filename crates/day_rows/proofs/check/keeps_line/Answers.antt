-- Each return is one law: the columns before it hold, and its own does not.
use mathlib.Core.Path.{refl, sym, ◌∙◌}
use Rattle.day_rows.proofs.CheckLaws.{kind-fails, left-fails, right-fails, extra-decides}
use Rattle.day_rows.proofs.LineLaws.{column_is}
use Rattle.day_rows.proofs.check.keeps_line.Goals as goal

pub returns-then-not-takes_part : goal.returns-then-not-takes_part
returns-then-not-takes_part c =
    (kind-fails _ _ _ c.requires (sym c.takes_part.ensures ∙ c.if-not-takes_part.true))

pub returns-then-not-column_holds : goal.returns-then-not-column_holds
returns-then-not-column_holds c =
    let a = c.args in
    (left-fails _ _ _ c.requires (sym c.takes_part.ensures ∙ c.if-not-takes_part.false) (column_is a.counts a.columns.1 c.column_holds.ensures c.left_of.ensures (c.if-not-column_holds.true)))

pub returns-then-not-column_holds-2 : goal.returns-then-not-column_holds-2
returns-then-not-column_holds-2 c =
    let a = c.args in
    (right-fails _ _ _ c.requires (sym c.takes_part.ensures ∙ c.if-not-takes_part.false) (column_is a.counts a.columns.1 c.column_holds.ensures c.left_of.ensures (c.if-not-column_holds.false)) (column_is a.counts a.columns.2 c.column_holds-2.ensures c.right_of.ensures (c.if-not-column_holds-2.true)))

pub returns : goal.returns
returns c =
    let a = c.args in
    (extra-decides _ _ _ c.requires _ (sym c.takes_part.ensures ∙ c.if-not-takes_part.false) (column_is a.counts a.columns.1 c.column_holds.ensures c.left_of.ensures (c.if-not-column_holds.false)) (column_is a.counts a.columns.2 c.column_holds-2.ensures c.right_of.ensures (c.if-not-column_holds-2.false)) (column_is a.counts a.columns.3 c.column_holds-3.ensures c.extra_of.ensures (refl)))
