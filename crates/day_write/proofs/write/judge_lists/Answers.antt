-- Each return is one law: the tests before it held, and its own did not.
use mathlib.Core.Path.{refl, ◌∙◌}
use Rattle.day_rows.proofs.ToldLaws.{passed_on}
use Rattle.day_write.proofs.WriteLaws.{lists-levels, lists_preference, lists-rows, lists-optional, lists-good, last-level, rows-judged}
use Rattle.day_write.proofs.write.judge_lists.Goals as goal

pub returns-then-not-levels_rise : goal.returns-then-not-levels_rise
returns-then-not-levels_rise c =
    lists-levels _ c.levels_rise.ensures (c.if-not-levels_rise.true)

pub returns-then-not-preferences_keep : goal.returns-then-not-preferences_keep
returns-then-not-preferences_keep c =
    lists_preference _ c.levels_rise.ensures (c.if-not-levels_rise.false) (last-level _ _ c.last_level.ensures c.preferences_keep.ensures) (c.if-not-preferences_keep.true)

pub returns-in_err-check_each_row : goal.returns-in_err-check_each_row
returns-in_err-check_each_row c =
    passed_on _ _ c.from_residual.ensures.1 ∙ lists-rows _ c.levels_rise.ensures (c.if-not-levels_rise.false) (last-level _ _ c.last_level.ensures c.preferences_keep.ensures) (c.if-not-preferences_keep.false) (rows-judged _ c.for_rows.ensures c.in_err-check_each_row.ensures) refl

pub returns-then-not-flags_fit : goal.returns-then-not-flags_fit
returns-then-not-flags_fit c =
    lists-optional _ c.levels_rise.ensures (c.if-not-levels_rise.false) (last-level _ _ c.last_level.ensures c.preferences_keep.ensures) (c.if-not-preferences_keep.false) (rows-judged _ c.for_rows.ensures c.in_ok-check_each_row.ensures) refl c.flags_fit.ensures (c.if-not-flags_fit.true)

pub returns : goal.returns
returns c =
    lists-good _ c.levels_rise.ensures (c.if-not-levels_rise.false) (last-level _ _ c.last_level.ensures c.preferences_keep.ensures) (c.if-not-preferences_keep.false) (rows-judged _ c.for_rows.ensures c.in_ok-check_each_row.ensures) refl c.flags_fit.ensures (c.if-not-flags_fit.false)
