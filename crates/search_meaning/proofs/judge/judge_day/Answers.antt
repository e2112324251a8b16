-- Each return is one law: the tests before it hold, and its own does not.
use mathlib.Core.Path.{sym, ◌∙◌}
use Rattle.search_meaning.proofs.JudgedLaws.{day-count, day-length, day-rows-length, day-levels, day_preference, day-rows}
use Rattle.search_meaning.proofs.judge.judge_day.Goals as goal

pub returns-then-is_refused : goal.returns-then-is_refused
returns-then-is_refused c = day-count _ _ (sym c.in_range-fits.ensures ∙ c.if-is_refused.true)

pub day_lengths-requires : goal.day_lengths-requires
day_lengths-requires c = (sym c.in_range-fits.ensures ∙ c.if-is_refused.false)

pub returns-then-not-day_lengths : goal.returns-then-not-day_lengths
returns-then-not-day_lengths c = day-length _ _ (sym c.in_range-fits.ensures ∙ c.if-is_refused.false) (sym c.day_lengths.ensures ∙ c.if-not-day_lengths.true)

pub returns-then-not-row_lengths : goal.returns-then-not-row_lengths
returns-then-not-row_lengths c = day-rows-length _ _ (sym c.in_range-fits.ensures ∙ c.if-is_refused.false) (sym c.day_lengths.ensures ∙ c.if-not-day_lengths.false) (sym c.row_lengths.ensures ∙ c.if-not-row_lengths.true)

pub returns-then-not-levels_rise : goal.returns-then-not-levels_rise
returns-then-not-levels_rise c = day-levels _ _ (sym c.in_range-fits.ensures ∙ c.if-is_refused.false) (sym c.day_lengths.ensures ∙ c.if-not-day_lengths.false) (sym c.row_lengths.ensures ∙ c.if-not-row_lengths.false) (sym c.levels_rise.ensures ∙ c.if-not-levels_rise.true)

pub returns-then-not-preferences_keep : goal.returns-then-not-preferences_keep
returns-then-not-preferences_keep c = day_preference _ _ (sym c.in_range-fits.ensures ∙ c.if-is_refused.false) (sym c.day_lengths.ensures ∙ c.if-not-day_lengths.false) (sym c.row_lengths.ensures ∙ c.if-not-row_lengths.false) (sym c.levels_rise.ensures ∙ c.if-not-levels_rise.false) c.last_level.ensures (sym c.preferences_keep.ensures ∙ c.if-not-preferences_keep.true)

pub returns : goal.returns
returns c = c.check_each_row.ensures ∙ day-rows _ _ (sym c.in_range-fits.ensures ∙ c.if-is_refused.false) (sym c.day_lengths.ensures ∙ c.if-not-day_lengths.false) (sym c.row_lengths.ensures ∙ c.if-not-row_lengths.false) (sym c.levels_rise.ensures ∙ c.if-not-levels_rise.false) c.last_level.ensures (sym c.preferences_keep.ensures ∙ c.if-not-preferences_keep.false) c.row_counts.ensures
