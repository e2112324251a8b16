-- What a search is given: the day, its rows with a map, and what is lent beside them.
use Rattle.std.specs.Prelude.{List, ℕ}
use Rattle.day_rows.specs.declared.check.Counts.{Counts}
use Rattle.plan_check.specs.Day as plan
use Rattle.sets_analysis.specs.SetsDay as sets
use Rattle.sets_analysis.specs.declared.day.SetsCounts.{SetsCounts}
use Rattle.search_map.specs.Map.{Map, map_lent}
use Rattle.search_meaning.specs.declared.counts.SearchCounts.{SearchCounts}
use Rattle.search_meaning.specs.declared.given.Given as lent

-- what a search is given
pub record Given : Type 0 where
  pub counts : SearchCounts
  pub mins : List ℕ
  pub maxs : List ℕ
  pub optional : List ℕ
  pub levels : List ℕ
  pub preferences : List ℕ
  pub rows : List ℕ
  pub map : Map
  pub whole : List ℕ
  pub orders : List ℕ
  pub draws : List ℕ

-- what a call's parameters give
abbrev pub given_of : SearchCounts → List ℕ → List ℕ → List ℕ → List ℕ → List ℕ → List ℕ → Map
    → List ℕ → List ℕ → List ℕ → Given
given_of counts mins maxs optional levels preferences rows map whole orders draws =
    record {
      counts = counts;
      mins = mins;
      maxs = maxs;
      optional = optional;
      levels = levels;
      preferences = preferences;
      rows = rows;
      map = map;
      whole = whole;
      orders = orders;
      draws = draws;
    }

-- what a call is lent
abbrev pub given_lent : lent.Given → Given
given_lent given =
    given_of given.counts given.mins.now given.maxs.now given.optional.now
    given.levels.now given.preferences.now given.rows.now (map_lent given.map)
    given.whole.now given.orders.now given.draws.now

-- the counts as a check of rows takes them: C, S, H and the number of rows
abbrev pub row_counts : SearchCounts → Counts
row_counts counts =
    record {
      choices = counts.choices;
      slots = counts.slots;
      choosers = counts.choosers;
      rows = counts.rows;
    }

-- the counts as the analysis takes them: C, S, H and L
abbrev pub sets_counts : SearchCounts → SetsCounts
sets_counts counts =
    record {
      choices = counts.choices;
      slots = counts.slots;
      choosers = counts.choosers;
      levels = counts.levels;
    }

-- the day as the plan check takes it
abbrev pub plan_day : Given → plan.Day
plan_day given =
    plan.day_of (row_counts given.counts) given.mins given.maxs given.optional given.rows

-- the day as the analysis takes it
abbrev pub sets_day : Given → sets.SetsDay
sets_day given = sets.day_of (sets_counts given.counts) given.mins given.levels given.preferences
