-- The counts of a call in another language: C, S and H as numbers; a list of levels and a list of rows carry
-- their own.
use Rattle.std.specs.Prelude.{List, ℕ, length}
use Rattle.day_rows.specs.declared.check.Counts.{Counts}
use Rattle.sets_analysis.specs.declared.day.SetsCounts as sets
use Rattle.day_file.specs.declared.counts.FileCounts as file
use Rattle.search_day.specs.declared.given.PlanCounts.{PlanCounts}
use Rattle.search_meaning.specs.declared.counts.SearchCounts.{SearchCounts}

-- the counts of rows: for reduction, plan check, own map and listing
abbrev pub counts_of : ℕ → ℕ → ℕ → List ℕ → Counts
counts_of choices slots choosers rows =
    record { choices = choices; slots = slots; choosers = choosers; rows = length rows }

-- the counts of a day written
abbrev pub day_counts_of : ℕ → ℕ → ℕ → List ℕ → List ℕ → file.FileCounts
day_counts_of choices slots choosers levels rows =
    record {
      choices = choices;
      slots = slots;
      choosers = choosers;
      levels = length levels;
      rows = length rows;
    }

-- the counts of critical sets
abbrev pub sets_counts_of : ℕ → ℕ → ℕ → List ℕ → sets.SetsCounts
sets_counts_of choices slots choosers levels =
    record { choices = choices; slots = slots; choosers = choosers; levels = length levels }

-- the counts of a search, with how many numbers its map has
abbrev pub search_counts_of : ℕ → ℕ → ℕ → List ℕ → List ℕ → ℕ → SearchCounts
search_counts_of choices slots choosers levels rows numbers =
    record {
      choices = choices;
      slots = slots;
      choosers = choosers;
      levels = length levels;
      rows = length rows;
      numbers = numbers;
    }

-- the counts of a day planned
abbrev pub plan_counts_of : ℕ → ℕ → ℕ → List ℕ → List ℕ → PlanCounts
plan_counts_of choices slots choosers levels rows =
    record {
      choices = choices;
      slots = slots;
      choosers = choosers;
      levels = length levels;
      rows = length rows;
    }
