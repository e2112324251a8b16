use mathlib.Core.Path.{sym, ◌∙◌}
use Rattle.day_rows.proofs.CheckLaws.{from_start, from_next, stops_at, none_bad}
use Rattle.day_rows.proofs.check.check_each_row.Goals as goal

pub loop-i-init : goal.loop-i-init
loop-i-init c =
    from_start _ _ _

pub returns-then-not-row_keeps : goal.returns-then-not-row_keeps
returns-then-not-row_keeps c =
    stops_at _ _ _ _ c.loop-i-test.true c.loop-i.invariant (sym c.row_keeps.ensures ∙ c.if-not-row_keeps.true)

pub loop-i-preserved : goal.loop-i-preserved
loop-i-preserved c =
    from_next _ _ _ _ c.loop-i-test.true c.loop-i.invariant (sym c.row_keeps.ensures ∙ c.if-not-row_keeps.false)

pub returns : goal.returns
returns c =
    none_bad _ _ _ _ c.loop-i-test.false c.loop-i.invariant
