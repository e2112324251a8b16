-- A `FileDay`, a day as a file carries it: its `FileCounts` and its lists, and what 'Numbers a day may have'
-- asks of them.
use Rattle.std.specs.Prelude.{Bool, true, false, ◌&&◌, List, ℕ, ◌*◌, eqb, leb, length}
use Rattle.base_lists.specs.All.{all_at_most}
use Rattle.base_lists.specs.Pool.{pad}
use Rattle.day_rows.specs.Check.{counts_in_range, rows_judged}
use Rattle.day_rows.specs.declared.check.Counts.{Counts}
use Rattle.day_rows.specs.declared.check.Takes.TheVariants as takes
use Rattle.day_rows.specs.Told.{Verdict, done, refused}
use Rattle.day_rows.specs.Levels.{levels_in_range, levels_rise, last_level}
use Rattle.day_file.specs.declared.counts.FileCounts.{FileCounts}
use Rattle.day_file.specs.declared.day.FileDay as lent

-- the lists of a day, preferences chooser by chooser; also the pools that a reader fills with them
pub record Parts : Type 0 where
  pub mins : List ℕ
  pub maxs : List ℕ
  pub optional : List ℕ
  pub levels : List ℕ
  pub preferences : List ℕ
  pub rows : List ℕ

abbrev pub parts : List ℕ → List ℕ → List ℕ → List ℕ → List ℕ → List ℕ → Parts
parts mins maxs optional levels preferences rows =
    record {
      mins = mins;
      maxs = maxs;
      optional = optional;
      levels = levels;
      preferences = preferences;
      rows = rows;
    }

-- a day as a file carries it: its counts and its lists
pub record FileDay : Type 0 where
  pub counts : FileCounts
  pub lists : Parts

abbrev pub day : FileCounts → Parts → FileDay
day counts lists = record { counts = counts; lists = lists }

-- the day that a call is lent
abbrev pub file_day_lent : lent.FileDay → FileDay
file_day_lent given =
    day given.counts
    (parts given.mins.now given.maxs.now given.optional.now given.levels.now given.preferences.now given.rows.now)

-- the counts of a file that the row check takes
abbrev pub row_counts : FileCounts → Counts
row_counts counts =
    record {
      choices = counts.choices;
      slots = counts.slots;
      choosers = counts.choosers;
      rows = counts.rows;
    }

-- each count is in its range: 'Choices C 0..64, slots S 0..24, choosers H 0..200, levels L 1..64, given rows
-- 0..128'
unfoldable pub file_counts_in_range : FileCounts → Bool
file_counts_in_range counts = counts_in_range (row_counts counts) takes.Given && levels_in_range counts.levels

-- each list 'at the length its counts give'
unfoldable pub file_lengths_fit : FileCounts → Parts → Bool
file_lengths_fit counts lists =
    eqb (length lists.mins) counts.choices
    && eqb (length lists.maxs) counts.choices
    && eqb (length lists.optional) counts.choices
    && eqb (length lists.levels) counts.levels
    && eqb (length lists.preferences) (counts.choosers * counts.choices)
    && eqb (length lists.rows) counts.rows

-- a day's rows judged: good, or 5 with the first row that breaks the one table, of which a day may have every
-- kind
unfoldable pub day_rows_judged : FileDay → Verdict
day_rows_judged d = rows_judged (row_counts d.counts) takes.Given d.lists.rows

abbrev pub is_good : Verdict → Bool
is_good (done value) = true
is_good (refused number carried) = false

-- a day whose numbers are those that a day may have
unfoldable pub is_day : FileDay → Bool
is_day d =
    file_counts_in_range d.counts
    && file_lengths_fit d.counts d.lists
    && all_at_most 65535 d.lists.mins
    && all_at_most 65535 d.lists.maxs
    && all_at_most 1 d.lists.optional
    && levels_rise d.lists.levels
    && leb (last_level d.lists.levels) 65535
    && all_at_most (last_level d.lists.levels) d.lists.preferences
    && is_good (day_rows_judged d)

-- the lengths of six pools: 'A pool is lent at its full limit'
unfoldable pub lengths_full : ℕ → ℕ → ℕ → ℕ → ℕ → ℕ → Bool
lengths_full mins maxs optional levels preferences rows =
    eqb mins 64 && eqb maxs 64 && eqb optional 64 && eqb levels 64 && eqb preferences 12800 && eqb rows 128

abbrev pub pools_full : Parts → Bool
pools_full pools =
    lengths_full (length pools.mins) (length pools.maxs) (length pools.optional)
    (length pools.levels) (length pools.preferences) (length pools.rows)

-- the lists in their pools: 'Success zeroes a pool past its result'
abbrev pub padded : Parts → Parts
padded lists =
    parts (pad 64 lists.mins) (pad 64 lists.maxs) (pad 64 lists.optional)
    (pad 64 lists.levels) (pad 12800 lists.preferences) (pad 128 lists.rows)
