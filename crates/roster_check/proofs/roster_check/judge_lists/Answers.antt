-- The refusals 1, 2, 3, 4, each where the tests before it are passed.
use mathlib.Core.Path.{sym, ◌∙◌}
use Rattle.roster_check.proofs.JudgeLaws.{lists-count, lists_length, lists-levels, lists_preference, lists-good}
use Rattle.roster_check.proofs.roster_check.judge_lists.Goals as goal

pub returns-then-not-in_range : goal.returns-then-not-in_range
returns-then-not-in_range c =
    lists-count _ (sym c.in_range.ensures ∙ c.if-not-in_range.true)

pub lengths_keep-requires : goal.lengths_keep-requires
lengths_keep-requires c = sym c.in_range.ensures ∙ c.if-not-in_range.false

pub returns-then-not-lengths_keep : goal.returns-then-not-lengths_keep
returns-then-not-lengths_keep c =
    lists_length _ (sym c.in_range.ensures ∙ c.if-not-in_range.false) (sym c.lengths_keep.ensures ∙ c.if-not-lengths_keep.true)

pub returns-then-not-levels_rise : goal.returns-then-not-levels_rise
returns-then-not-levels_rise c =
    lists-levels _ (sym c.in_range.ensures ∙ c.if-not-in_range.false) (sym c.lengths_keep.ensures ∙ c.if-not-lengths_keep.false) (sym c.levels_rise.ensures ∙ c.if-not-levels_rise.true)

pub returns-then-not-preferences_keep : goal.returns-then-not-preferences_keep
returns-then-not-preferences_keep c =
    lists_preference _ (sym c.in_range.ensures ∙ c.if-not-in_range.false) (sym c.lengths_keep.ensures ∙ c.if-not-lengths_keep.false) (sym c.levels_rise.ensures ∙ c.if-not-levels_rise.false) c.last_level.ensures c.preferences_keep.ensures (c.if-not-preferences_keep.true)

pub returns : goal.returns
returns c =
    lists-good _ (sym c.in_range.ensures ∙ c.if-not-in_range.false) (sym c.lengths_keep.ensures ∙ c.if-not-lengths_keep.false) (sym c.levels_rise.ensures ∙ c.if-not-levels_rise.false) c.last_level.ensures c.preferences_keep.ensures (c.if-not-preferences_keep.false)
