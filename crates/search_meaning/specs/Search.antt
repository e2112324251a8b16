-- The search of a day that isn't refused: its sets, its start, its passes.
use Rattle.std.specs.Prelude.{cond, List, [], map, ℕ, leb, length, get_or, drop}
use Rattle.base_lists.specs.First.{first_failing}
use Rattle.base_lists.specs.Flat.{list_below}
use Rattle.day_rows.specs.Levels.{last_level}
use Rattle.sets_analysis.specs.SetsDay as sets
use Rattle.sets_analysis.specs.Kept.{CriticalSet, kept_sets, simplified}
use Rattle.sets_analysis.specs.Bound.{bound_of}
use Rattle.sets_analysis.specs.LevelList.{level_list}
use Rattle.sets_analysis.specs.declared.analysis.Analysis.{Analysis}
use Rattle.sets_analysis.specs.declared.analysis.Analysis.TheVariants as mode
use Rattle.search_map.specs.Map.{looked_up}
use Rattle.search_order.specs.Order.{pass_order}
use Rattle.search_rules.specs.Walk.{Out}
use Rattle.search_rules.specs.Pass.{Lent, lent_of, pass_of}
use Rattle.search_meaning.specs.Given.{Given, plan_day, sets_day}
use Rattle.search_rules.specs.Passes.{Ending, passes_from}
use Rattle.search_meaning.specs.declared.settings.Settings.{Settings}

-- 'Sets and bound come from module 4: analysis off, on, or simplified'
abbrev pub sets_of : sets.SetsDay → Analysis → List CriticalSet
sets_of day mode.Off = []
sets_of day mode.On = kept_sets day
sets_of day mode.Simplified = simplified (kept_sets day)

-- the bound, '0 without analysis'
abbrev pub lowest_of : sets.SetsDay → Analysis → ℕ
lowest_of day mode.Off = 0
lowest_of day mode.On = bound_of day (kept_sets day)
lowest_of day mode.Simplified = bound_of day (simplified (kept_sets day))

-- 'A call starts at the last level if the lent flag says so, else at the bound'
unfoldable pub start_of : Given → Settings → ℕ
start_of given settings =
    cond settings.at_last_level (last_level given.levels)
    (lowest_of (sets_day given) settings.analysis)

-- the levels above a limit: levels rise
unfoldable pub levels_above : List ℕ → ℕ → List ℕ
levels_above levels limit = drop (first_failing (λ level. leb level limit) levels) levels

-- the critical sets of a limit: the choices of each set of its list
unfoldable pub sets_at : Given → Settings → ℕ → List ℕ
sets_at given settings limit =
    map (λ set. set.members) (level_list given.levels (sets_of (sets_day given) settings.analysis) limit)

-- each choice's 'number of looked-up rows'
unfoldable pub rows_counted : Given → List ℕ
rows_counted given = list_below 64 λ choice. length (looked_up given.map given.whole choice)

-- the order of a pass
unfoldable pub order_of : Given → ℕ → List ℕ
order_of given pass =
    pass_order given.counts.choices given.orders (λ choice. get_or (rows_counted given) choice 0) pass

-- what a pass of the call is lent, by its limit and its number from 0
unfoldable pub lent_at : Given → Settings → ℕ → ℕ → Lent
lent_at given settings limit pass =
    lent_of settings.full (plan_day given) given.map given.whole
    (order_of given pass) (sets_at given settings limit) given.draws

-- a pass of the call
unfoldable pub pass_at : Given → Settings → ℕ → ℕ → ℕ → ℕ → Out
pass_at given settings limit pass budget draw = pass_of (lent_at given settings limit pass) budget draw

-- how the call ends: its passes from its start, with all its turns and the first draw
unfoldable pub ending_of : Given → Settings → Ending
ending_of given settings =
    let start = start_of given settings in
    passes_from (pass_at given settings) settings.pass_budget
    (levels_above given.levels start) start 0 settings.total_budget 0
