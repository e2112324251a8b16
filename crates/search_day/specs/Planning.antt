-- A day planned with its own map by the full search: what the search is given, the refusals, lowest number
-- first, and the call.
use Rattle.std.specs.Prelude.{Bool, true, List, ℕ, min, leb, length}
use Rattle.base_lists.specs.Flat.{list_below}
use Rattle.day_rows.specs.Told.{Verdict, good, unless, and_then, Outcome, judged}
use Rattle.sets_analysis.specs.declared.analysis.Analysis.{Analysis}
use Rattle.search_map.specs.Map.{Map, own_numbers}
use Rattle.search_map.specs.Calls.{own_pools}
use Rattle.search_meaning.specs.Given.{Given, given_of}
use Rattle.search_meaning.specs.Judged.{day_judged}
use Rattle.search_meaning.specs.declared.counts.SearchCounts.{SearchCounts}
use Rattle.search_meaning.specs.Calls.{Settled, search_of}
use Rattle.search_meaning.specs.declared.settings.Settings.{Settings}
use Rattle.search_day.specs.declared.given.PlanCounts.{PlanCounts}
use Rattle.search_day.specs.declared.given.PlanGiven.{PlanGiven}
use Rattle.search_day.specs.declared.settings.PlanSettings.{PlanSettings}

-- ---- what the search is given

-- the counts, with how many numbers the map has
abbrev pub with_numbers : ℕ → PlanCounts → SearchCounts
with_numbers numbers counts =
    record {
      choices = counts.choices;
      slots = counts.slots;
      choosers = counts.choosers;
      levels = counts.levels;
      rows = counts.rows;
      numbers = numbers;
    }

-- the numbers of all rows, 0, 1, 2 .., as many as there may be
unfoldable pub whole_of : List ℕ → List ℕ
whole_of rows = list_below (min (length rows) 1024) (λ i. i)

-- the day with the own map of its rows, and a count of its numbers
abbrev pub given_with : ℕ → PlanCounts → List ℕ → List ℕ → List ℕ → List ℕ → List ℕ → List ℕ
    → List ℕ → List ℕ → Given
given_with numbers counts mins maxs optional levels preferences rows orders draws =
    given_of (with_numbers numbers counts) mins maxs optional levels preferences rows
    (own_pools rows counts.choices) (whole_of rows) orders draws

-- the day with the own map of its rows, and as many numbers as that map has
abbrev pub given_own : PlanCounts → List ℕ → List ℕ → List ℕ → List ℕ → List ℕ → List ℕ
    → List ℕ → List ℕ → Given
given_own counts mins maxs optional levels preferences rows orders draws =
    given_with (length (own_numbers rows counts.choices)) counts
    mins maxs optional levels preferences rows orders draws

-- the settings of a full search, with the rest as it is lent
abbrev pub full_by : Analysis → Bool → ℕ → ℕ → Settings
full_by analysis at_last_level pass_budget total_budget =
    record {
      full = true;
      analysis = analysis;
      at_last_level = at_last_level;
      pass_budget = pass_budget;
      total_budget = total_budget;
    }

-- ---- the call

-- a day planned: 1, 2, 3, 4, 5 with the first bad row, 6: 'own map over 10,240 numbers', each with the plan
-- untouched; then the search's answer
unfoldable pub plan_day_of : PlanCounts → List ℕ → List ℕ → List ℕ → List ℕ → List ℕ → List ℕ
    → List ℕ → List ℕ → Settings → List ℕ → Outcome Settled (List ℕ)
plan_day_of counts mins maxs optional levels preferences rows orders draws settings before =
    judged
    (and_then (day_judged (given_with 0 counts mins maxs optional levels preferences rows orders draws) before)
    (unless (leb (length (own_numbers rows counts.choices)) 10240) 6 good))
    before
    (search_of (given_own counts mins maxs optional levels preferences rows orders draws) settings before)

-- ---- what the call is lent

-- the settings of a full search, as they are lent
abbrev pub full_settings : PlanSettings → Settings
full_settings settings =
    full_by settings.analysis settings.at_last_level settings.pass_budget settings.total_budget

-- what is lent, with a map of so many numbers
abbrev pub given_mapped : PlanGiven → ℕ → Map → List ℕ → Given
given_mapped given numbers map whole =
    given_of (with_numbers numbers given.counts) given.mins.now given.maxs.now given.optional.now
    given.levels.now given.preferences.now given.rows.now map whole given.orders.now given.draws.now

-- what is lent, with its own map
abbrev pub own_given : PlanGiven → Given
own_given given =
    given_own given.counts given.mins.now given.maxs.now given.optional.now
    given.levels.now given.preferences.now given.rows.now given.orders.now given.draws.now

-- the first refusals of what is lent: 1, 2, 3, 4, 5
abbrev pub judged_first : PlanGiven → List ℕ → Verdict
judged_first given before =
    day_judged
    (given_with 0 given.counts given.mins.now given.maxs.now given.optional.now
    given.levels.now given.preferences.now given.rows.now given.orders.now given.draws.now)
    before

-- the answer and the plan of what is lent
abbrev pub planned_by : PlanGiven → Settings → List ℕ → Outcome Settled (List ℕ)
planned_by given settings before =
    plan_day_of given.counts given.mins.now given.maxs.now given.optional.now
    given.levels.now given.preferences.now given.rows.now given.orders.now given.draws.now settings before
