-- A level's list as a call: its refusals, lowest number first, its answer and its pool.
use Rattle.std.specs.Prelude.{◌&&◌, List, map, ℕ, eqb, leb, length}
use Rattle.base_lists.specs.Pool.{pad}
use Rattle.day_rows.specs.Told.{done, Verdict, good, unless, Outcome, outcome, judged}
use Rattle.day_rows.specs.Levels.{levels_in_range, levels_rise}
use Rattle.sets_analysis.specs.Kept.{CriticalSet}
use Rattle.sets_analysis.specs.LevelList.{level_list}
use Rattle.sets_analysis.specs.Calls.{Pools, pools_full, sets_in}

-- the refusals of a level's list: 1 for a count of sets over 1,024 or levels not 1..64, 2, 3
unfoldable pub list_judged : List ℕ → ℕ → Pools → List ℕ → Verdict
list_judged levels count lent list =
    unless (leb count 1024 && levels_in_range (length levels)) 1
    (unless (pools_full lent && eqb (length list) 1024) 2
    (unless (levels_rise levels) 3 good))

-- the answer for a list of sets: how many they are, and the pool with their members and zeros after them
unfoldable pub listed_of : List CriticalSet → Outcome ℕ (List ℕ)
listed_of sets = outcome (done (length sets)) (pad 1024 (map (λ set. set.members) sets))

-- a level's list as a call, of the first sets of the pools: its refusals, and else the list
unfoldable pub level_list_of : List ℕ → ℕ → Pools → ℕ → List ℕ → Outcome ℕ (List ℕ)
level_list_of levels count lent limit list =
    judged (list_judged levels count lent list) list
    (listed_of (level_list levels (sets_in count lent.masks lent.levels) limit))
