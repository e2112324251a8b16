-- The analysis as a call: its refusals, lowest number first, its answer and its pools.
use Rattle.std.specs.Prelude.{Bool, ◌&&◌, cond, List, [], map, ℕ, eqb, leb, length, get_or}
use Rattle.base_lists.specs.Flat.{list_below}
use Rattle.base_lists.specs.Pool.{pad}
use Rattle.day_rows.specs.Told.{done, Verdict, good, refuse, unless, Outcome, outcome, judged}
use Rattle.base_lists.specs.All.{all_at_most}
use Rattle.day_rows.specs.Levels.{levels_rise, last_level}
use Rattle.sets_analysis.specs.SetsDay.{SetsDay, sets_counts_in_range, sets_lengths_fit}
use Rattle.sets_analysis.specs.Kept.{CriticalSet, critical_set, kept_sets, simplified}
use Rattle.sets_analysis.specs.Bound.{bound_of}
use Rattle.sets_analysis.specs.declared.analysis.Analysis.{Analysis}
use Rattle.sets_analysis.specs.declared.analysis.Analysis.TheVariants as mode
use Rattle.sets_analysis.specs.declared.analysis.Figures.{Figures}

-- the two pools of sets: the choices of each, and its level
pub record Pools : Type 0 where
  pub masks : List ℕ
  pub levels : List ℕ

-- two pools by their parts
abbrev pub pools : List ℕ → List ℕ → Pools
pools masks levels = record { masks = masks; levels = levels }

-- 'A pool is lent at its full limit': 'critical sets 0..1,024'
unfoldable pub pools_full : Pools → Bool
pools_full lent = eqb (length lent.masks) 1024 && eqb (length lent.levels) 1024

-- the sets in two pools, and nothing after them: 'Success zeroes a pool past its result'
unfoldable pub filled : List CriticalSet → Pools
filled sets = pools (pad 1024 (map (λ set. set.members) sets)) (pad 1024 (map (λ set. set.level) sets))

-- the first sets of two pools
unfoldable pub sets_in : ℕ → List ℕ → List ℕ → List CriticalSet
sets_in count masks levels = list_below count λ i. critical_set (get_or levels i 0) (get_or masks i 0)

-- the sets of two lists that go together, as the first entries of two pools do
abbrev pub sets_of : List ℕ → List ℕ → List CriticalSet
sets_of masks levels = sets_in (length masks) masks levels

-- what the analysis hands back: how many sets there are, and the bound
abbrev pub figures : ℕ → ℕ → Figures
figures count bound = record { count = count; bound = bound }

-- the sets and their bound, or 7 where too many were kept: 'Numbers 6 and 7 leave the pool being filled
-- all zero'
unfoldable pub sets_kept : SetsDay → List CriticalSet → List CriticalSet → Outcome Figures Pools
sets_kept day kept sets =
    cond (leb (length kept) 1024)
    (outcome (done (figures (length sets) (bound_of day sets))) (filled sets))
    (outcome (refuse 7) (filled []))

-- the analysis of a day that isn't refused: 'analysis off, on, or simplified'; '0 without analysis'; 7: 'over
-- 1,024 sets are kept before simplifying'
unfoldable pub analyzed_of : SetsDay → Analysis → Outcome Figures Pools
analyzed_of day mode.Off = outcome (done (figures 0 0)) (filled [])
analyzed_of day mode.On = sets_kept day (kept_sets day) (kept_sets day)
analyzed_of day mode.Simplified = sets_kept day (kept_sets day) (simplified (kept_sets day))

-- the refusals of a day that leave the pools untouched: 1, 2, 3, 4
unfoldable pub day_judged : SetsDay → Pools → Verdict
day_judged day lent =
    unless (sets_counts_in_range day.counts) 1
    (unless (sets_lengths_fit day && pools_full lent) 2
    (unless (levels_rise day.levels) 3
    (unless (all_at_most (last_level day.levels) day.preferences) 4 good)))

-- the analysis as a call: its refusals, and else its answer and its pools
unfoldable pub analysis_of : SetsDay → Analysis → Pools → Outcome Figures Pools
analysis_of day mode lent = judged (day_judged day lent) lent (analyzed_of day mode)
