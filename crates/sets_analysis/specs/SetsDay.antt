-- A day as the analysis takes it, and what 'Numbers a day may have' asks of it.
use Rattle.std.specs.Prelude.{Bool, ◌&&◌, List, ℕ, ◌+◌, ◌*◌, eqb, leb, length, get_or}
use Rattle.day_rows.specs.Levels.{levels_in_range}
use Rattle.sets_analysis.specs.declared.day.SetsCounts.{SetsCounts}
use Rattle.sets_analysis.specs.declared.day.SetsDay as lent

-- a day: C, S, H and L; min of each choice; the levels; preferences chooser by chooser
pub record SetsDay : Type 0 where
  pub counts : SetsCounts
  pub mins : List ℕ
  pub levels : List ℕ
  pub preferences : List ℕ

-- the day that a call's parameters make
abbrev pub day_of : SetsCounts → List ℕ → List ℕ → List ℕ → SetsDay
day_of counts mins levels preferences =
    record { counts = counts; mins = mins; levels = levels; preferences = preferences }

-- the day that a call is lent
abbrev pub sets_day_lent : lent.SetsDay → SetsDay
sets_day_lent day = day_of day.counts day.mins.now day.levels.now day.preferences.now

-- a chooser's preference for a choice
unfoldable pub preference_of : SetsDay → ℕ → ℕ → ℕ
preference_of day chooser choice = get_or day.preferences (chooser * day.counts.choices + choice) 0

-- the counts are in range: 'Choices C 0..64, slots S 0..24, choosers H 0..200, levels L 1..64'
unfoldable pub sets_counts_in_range : SetsCounts → Bool
sets_counts_in_range counts =
    leb counts.choices 64
    && leb counts.slots 24
    && leb counts.choosers 200
    && levels_in_range counts.levels

-- the lengths fit the counts: 'every other slice .. at the length its counts give'
unfoldable pub sets_lengths_fit : SetsDay → Bool
sets_lengths_fit day =
    eqb (length day.mins) day.counts.choices
    && eqb (length day.levels) day.counts.levels
    && eqb (length day.preferences) (day.counts.choosers * day.counts.choices)
