-- The limits of a call: its last pass is at the last level, and there are at most L + 1 passes.
use mathlib.Core.Path.{◌≡◌, refl, ◌∙◌, ap}
use mathlib.Core.Bool.{Bool, true, false, cond}
use mathlib.Core.List.{List, [], ◌∷◌}
use Prim.Native.Nat.{ℕ, suc, ◌+◌, ◌-◌, ◌≤◌, ◌<◌, min}
use native.Mathlib.Decide.{dec_lt}
use native.Mathlib.Omega.{arith}
use borrow.Author.Tests.{leb-true}
use lib.Dec.{leb}
use lib.ListN.{length, get_or, drop, length-drop, drop_of_length-le, get_or-eq_default}
use lib.Seq.{get_or-drop}
use Rattle.base_lists.specs.First.{first_failing}
use Rattle.base_lists.proofs.First.{first-before}
use Rattle.day_rows.specs.Levels.{last_level}
use Rattle.sets_analysis.specs.SetsDay as sets
use Rattle.sets_analysis.specs.Kept.{CriticalSet, kept_sets, simplified}
use Rattle.sets_analysis.specs.Bound.{lowers, lowered_to, bound_of}
use Rattle.sets_analysis.specs.declared.analysis.Analysis.{Analysis}
use Rattle.sets_analysis.specs.declared.analysis.Analysis.TheVariants as mode
use Rattle.search_rules.proofs.CallSettles.{last_limit}
use Rattle.search_meaning.specs.Given.{Given, sets_day}
use Rattle.search_meaning.specs.Search.{lowest_of, start_of, levels_above}
use Rattle.search_meaning.specs.declared.settings.Settings.{Settings}

-- ---- the last limit

-- of levels that are left the last limit is the last
pub last-limit : (limit : ℕ) (levels : List ℕ) → 0 < length levels → last_limit limit levels ≡ get_or levels (length levels - 1) 0
unfolding last_limit
last-limit limit [] h = absurd (omega arith)
last-limit limit (level ∷ []) h = refl
last-limit limit (level ∷ next ∷ levels) h =
    let e : suc (suc (length levels)) - 1 ≡ suc (suc (length levels) - 1) = omega arith in
    rw e (last-limit level (next ∷ levels) (omega arith))

module _ (levels : List ℕ) (limit : ℕ) where
  -- where all levels are at most the limit, a limit that is at most the last level is the last
  last-reached : limit ≤ get_or levels (length levels - 1) 0 → length levels ≤ first_failing (λ level. leb level limit) levels → limit ≡ get_or levels (length levels - 1) 0
  last-reached most past =
      elim (dec_lt 0 (length levels)) [
        | yes some ↦
            let low = leb-true (get_or levels (length levels - 1) 0) limit (first-before (λ level. leb level limit) levels 0 (length levels - 1) (omega arith)) in
            omega (arith, low)
        | no none ↦ let zero : get_or levels (length levels - 1) 0 ≡ 0 = get_or-eq_default levels 0 (omega (arith, none)) in omega arith
      ]

  -- all levels are at most the limit, or a higher one is left
  pub above-last : limit ≤ last_level levels → last_limit limit (levels_above levels limit) ≡ last_level levels
  unfolding levels_above last_level last_limit
  above-last most =
      let first = first_failing (λ level. leb level limit) levels in
      elim (dec_lt first (length levels)) [
        | yes h ↦
            let l : length (drop first levels) ≡ length levels - first = length-drop first levels in
            let e : first + (length (drop first levels) - 1) ≡ length levels - 1 = omega arith in
            last-limit limit (drop first levels) (omega arith)
            ∙ get_or-drop first levels (length (drop first levels) - 1) 0
            ∙ ap (λ (i : ℕ). get_or levels i 0) e
        | no h ↦
            let past : length levels ≤ first = omega (arith, h) in
            ap (last_limit limit) (drop_of_length-le levels {i = first} past) ∙ last-reached most past
      ]

  pub above-few : length (levels_above levels limit) ≤ length levels
  unfolding levels_above
  above-few = rw (length-drop (first_failing (λ level. leb level limit) levels) levels) (omega arith)

-- ---- the start

-- a bound that is lowered is no higher than before
lowered_most : (slots : ℕ) (sets : List CriticalSet) (bound : ℕ) (levels : List ℕ) → lowered_to slots sets bound levels ≤ bound
unfolding lowered_to
lowered_most slots sets bound [] = omega arith
lowered_most slots sets bound (level ∷ levels) =
    omega (arith, lowered_most slots sets (cond (lowers slots sets level) (min bound level) bound) levels, go (lowers slots sets level))
  where
    go : (b : Bool) → cond b (min bound level) bound ≤ bound
    go true = omega arith
    go false = omega arith

lowest-most : (day : sets.SetsDay) (analysis : Analysis) → lowest_of day analysis ≤ last_level day.levels
unfolding bound_of
lowest-most day mode.Off = omega arith
lowest-most day mode.On = lowered_most day.counts.slots (kept_sets day) (last_level day.levels) day.levels
lowest-most day mode.Simplified = lowered_most day.counts.slots (simplified (kept_sets day)) (last_level day.levels) day.levels

-- a call starts at the last level or below
pub start-most : (given : Given) (settings : Settings) → start_of given settings ≤ last_level given.levels
unfolding start_of
start-most given settings = go settings.at_last_level
  where
    go : (b : Bool) → cond b (last_level given.levels) (lowest_of (sets_day given) settings.analysis) ≤ last_level given.levels
    go true = omega arith
    go false = lowest-most (sets_day given) settings.analysis

-- a call's last pass is at the last level
pub call_last : (given : Given) (settings : Settings) → last_limit (start_of given settings) (levels_above given.levels (start_of given settings)) ≡ last_level given.levels
call_last given settings = above-last given.levels (start_of given settings) (start-most given settings)
