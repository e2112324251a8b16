-- At a limit that no preference is above, as the last level is for a day that isn't refused, every set of the
-- level's list is the set of all choices, and there is a chooser.
use mathlib.Core.Path.{◌≡◌, ◌∙◌, ap}
use mathlib.Core.Bool.{true}
use mathlib.Core.List.{List, Memᴰ}
use Prim.Native.Nat.{ℕ, ◌+◌, ◌*◌, ◌≤◌, ◌<◌}
use native.Mathlib.Decide.{dec_lt}
use native.Mathlib.Omega.{arith}
use borrow.Author.Tests.{le-leb, leb-true}
use lib.Dec.{leb}
use lib.ListN.{length, get_or, get_or-eq_default}
use Rattle.base_lists.proofs.Below.{all-each}
use Rattle.base_lists.proofs.Keep.{in_map}
use Rattle.base_lists.specs.All.{all_at_most}
use Rattle.day_rows.specs.Levels.{last_level}
use Rattle.sets_analysis.specs.SetsDay.{SetsDay, preference_of}
use Rattle.base_choice_sets.specs.Sets.{set_of}
use Rattle.sets_analysis.specs.Kept.{CriticalSet, candidate_of, level_down, kept_sets, simplified}
use Rattle.sets_analysis.specs.LevelList.{level_list}
use Rattle.sets_analysis.proofs.Pairwise.{sub-member}
use Rattle.base_choice_sets.proofs.SetLaws.{set_ext}
use Rattle.sets_analysis.proofs.Origin.{Origin, kept_origin}
use Rattle.sets_analysis.proofs.LevelLists.{choices_of, listed_above}
use Rattle.sets_analysis.proofs.Simplifying.{simplified-sub}

-- the set of all choices
abbrev pub every_choice : SetsDay → ℕ
every_choice day = set_of day.counts.choices (λ choice. true)

-- a set of all choices, on a day that has a chooser
pub record Whole (day : SetsDay) (set : CriticalSet) : Type 0 where
  pub all-choices : set.members ≡ every_choice day
  pub some-chooser : 0 < day.counts.choosers

-- where every set of a list is the set of all choices, so is each number
pub whole_numbers : (day : SetsDay) (sets : List CriticalSet) → ((set : CriticalSet) → Memᴰ set sets → Whole day set)
    → (number : ℕ) → Memᴰ number (choices_of sets) → (number ≡ every_choice day) × (0 < day.counts.choosers)
whole_numbers day sets whole number m =
    let r = in_map (λ (s : CriticalSet). s.members) sets number m in
    let w = whole r.0 r.1 in
    (r.2 ∙ w.all-choices, w.some-chooser)

-- where every entry of a list is at most the limit, so is what is read anywhere
at-most-limit : (limit : ℕ) (l : List ℕ) (i : ℕ) → all_at_most limit l ≡ true → get_or l i 0 ≤ limit
unfolding all_at_most
at-most-limit limit l i h =
    elim (dec_lt i (length l)) [
      | yes k ↦ leb-true (get_or l i 0) limit (all-each (length l) (λ (j : ℕ). leb (get_or l j 0) limit) h i k)
      | no k ↦ let past : length l ≤ i = omega arith in rw (get_or-eq_default l 0 past) (omega arith)
    ]

-- a chooser's set at a level that no preference is above is the set of all choices
pub candidate_whole : (day : SetsDay) (limit level chooser : ℕ) → all_at_most limit day.preferences ≡ true → limit ≤ level → (candidate_of day level chooser).members ≡ every_choice day
unfolding candidate_of preference_of
candidate_whole day limit level chooser most h =
    set_ext day.counts.choices (λ choice. leb (get_or day.preferences (chooser * day.counts.choices + choice) 0) level) (λ choice. true)
    (λ choice k. le-leb (get_or day.preferences (chooser * day.counts.choices + choice) 0) level
    (omega (arith, at-most-limit limit day.preferences (chooser * day.counts.choices + choice) most)))

module _ (day : SetsDay) (limit : ℕ) (most : all_at_most limit day.preferences ≡ true) where
  -- a chooser's set of that level or above is the set of all choices
  pub origin_whole : (set : CriticalSet) → Origin day set → limit ≤ set.level → Whole day set
  unfolding candidate_of
  origin_whole set from h =
      let level : set.level ≡ level_down day from.down = ap (λ (s : CriticalSet). s.level) from.theirs in
      record {
        all-choices = ap (λ (s : CriticalSet). s.members) from.theirs ∙ candidate_whole day limit (level_down day from.down) from.chooser most (omega arith);
        some-chooser = omega (arith, from.chooser-fits);
      }

  -- every set of the level's list is the set of all choices, and there is a chooser
  pub listed-whole : (levels : List ℕ) (set : CriticalSet) → Memᴰ set (level_list levels (kept_sets day) limit) → Whole day set
  listed-whole levels set m = let k = listed_above levels (kept_sets day) limit set m in origin_whole set (kept_origin day set k.0) k.1

  -- every set of the level's list of simplified sets is the set of all choices, and there is a chooser
  pub simplified-whole : (levels : List ℕ) (set : CriticalSet) → Memᴰ set (level_list levels (simplified (kept_sets day)) limit) → Whole day set
  simplified-whole levels set m =
      let k = listed_above levels (simplified (kept_sets day)) limit set m in
      origin_whole set (kept_origin day set (sub-member (simplified-sub (kept_sets day)) k.0)) k.1

-- ---- the last level

-- at the last level of a day that isn't refused every listed set is whole: 'a preference is at most it'
pub last-whole : (day : SetsDay) → all_at_most (last_level day.levels) day.preferences ≡ true
    → (set : CriticalSet) → Memᴰ set (level_list day.levels (kept_sets day) (last_level day.levels)) → Whole day set
last-whole day most = listed-whole day (last_level day.levels) most day.levels

-- at the last level every listed set of the simplified ones is whole
pub last-simplified-whole : (day : SetsDay) → all_at_most (last_level day.levels) day.preferences ≡ true
    → (set : CriticalSet) → Memᴰ set (level_list day.levels (simplified (kept_sets day)) (last_level day.levels)) → Whole day set
last-simplified-whole day most = simplified-whole day (last_level day.levels) most day.levels
