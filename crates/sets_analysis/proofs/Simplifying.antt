-- Simplifying, of any list of sets: what is dropped is covered by a set that stays, so neither the bound nor
-- what a level's list holds changes; of kept sets not even a level's list changes.
use mathlib.Core.Path.{◌≡◌, refl, sym}
use mathlib.Core.Bool.{Bool, true, false, not, cond}
use mathlib.Core.List.Memᴰ
use mathlib.Core.List.Sublistᴰ
use mathlib.Core.List.{List, Memᴰ, Sublistᴰ}
use Prim.Native.Nat.{ℕ, zero, suc, ◌+◌, ◌<◌}
use borrow.Author.Tests.{ltb-true, not-false}
use lib.Dec.{ltb}
use lib.ListN.{length, get_or}
use Rattle.base_lists.specs.Keep.{keep}
use Rattle.base_lists.proofs.Keep.{in_kept}
use Rattle.day_rows.specs.Levels.{levels_rise}
use Rattle.sets_analysis.specs.SetsDay.{SetsDay, sets_lengths_fit}
use Rattle.base_choice_sets.specs.Sets.{same_choices}
use Rattle.sets_analysis.specs.Kept.{CriticalSet, no_set, covered_by, same_set, stays_beside, dropped_at, simplified_from, simplified, kept_sets}
use Rattle.sets_analysis.specs.Bound.{bound_of}
use Rattle.sets_analysis.specs.LevelList.{by_size, level_list}
use Rattle.sets_analysis.proofs.Members.{neither_right}
use Rattle.sets_analysis.proofs.Pairwise.{member-at, sub-member, sub-keep, same_sublists}
use Rattle.sets_analysis.proofs.Covering.{CoverIn, cover_in, CoveredIn, covered_self, covered_in_self, covered_in_through, same-set_self}
use Rattle.sets_analysis.proofs.Uncovered.{kept-once, kept-same-choices}
use Rattle.sets_analysis.proofs.LevelLists.{listed_above, level-list-sub, by-size-once, by-size-sub}
use Rattle.sets_analysis.proofs.SameSets.{SameSets, same-sets-turned, same-bound, same-listed}

-- ---- what is dropped is covered

-- a set stays beside itself
stays_itself : (set : CriticalSet) → stays_beside set set ≡ true
unfolding stays_beside
stays_itself set = rw (same-set_self set)

-- a set that doesn't stay beside another is covered by it
leaves_covered : (here set : CriticalSet) → stays_beside here set ≡ false → covered_by here set ≡ true
unfolding stays_beside
leaves_covered here set h = not-false (covered_by here set) (neither_right (same_set here set) (not (covered_by here set)) h)

-- the sets dropped beside one of them are covered by it
dropped_by : (here : CriticalSet) (sets : List CriticalSet) → Memᴰ here sets → CoveredIn (keep (stays_beside here) sets) sets
dropped_by here sets h set m = go (stays_beside here set) refl
  where
    go : (stays : Bool) → stays_beside here set ≡ stays → CoverIn (keep (stays_beside here) sets) set
    go true t = cover_in set (in_kept (stays_beside here) sets set m t) (covered_self set)
    go false t = cover_in here (in_kept (stays_beside here) sets here h (stays_itself here)) (leaves_covered here set t)

-- the sets dropped at an index are covered by the set there
dropped_covered : (index : ℕ) (sets : List CriticalSet) → index < length sets → CoveredIn (dropped_at index sets) sets
unfolding dropped_at
dropped_covered index sets h = dropped_by (get_or sets index no_set) sets (member-at sets index no_set h)

-- what is dropped index after index is covered by what stays
simplified-from_covered : (left index : ℕ) (sets : List CriticalSet) → CoveredIn (simplified_from left index sets) sets
unfolding simplified_from
simplified-from_covered zero index sets = covered_in_self sets
simplified-from_covered (suc left) index sets = go (ltb index (length sets)) refl (simplified-from_covered left (index + 1) (dropped_at index sets))
  where
    go : (inside : Bool) → ltb index (length sets) ≡ inside → CoveredIn (simplified_from left (index + 1) (dropped_at index sets)) (dropped_at index sets)
        → CoveredIn (cond inside (simplified_from left (index + 1) (dropped_at index sets)) sets) sets
    go true t ih = covered_in_through _ (dropped_at index sets) sets ih (dropped_covered index sets (ltb-true index (length sets) t))
    go false t ih = covered_in_self sets

-- every set that simplifying drops is covered by one that stays
pub simplified-covers : (sets : List CriticalSet) → CoveredIn (simplified sets) sets
unfolding simplified
simplified-covers sets = simplified-from_covered (length sets) 0 sets

-- ---- only drops

-- dropping index after index leaves out sets and changes nothing else
simplified-from-sub : (left index : ℕ) (sets : List CriticalSet) → Sublistᴰ (simplified_from left index sets) sets
unfolding simplified_from dropped_at
simplified-from-sub zero index sets = Sublistᴰ.refl sets
simplified-from-sub (suc left) index sets = go (ltb index (length sets)) (simplified-from-sub left (index + 1) (dropped_at index sets))
  where
    go : (inside : Bool) → Sublistᴰ (simplified_from left (index + 1) (dropped_at index sets)) (dropped_at index sets)
        → Sublistᴰ (cond inside (simplified_from left (index + 1) (dropped_at index sets)) sets) sets
    go true ih = Sublistᴰ.trans ih (sub-keep (stays_beside (get_or sets index no_set)) sets)
    go false ih = Sublistᴰ.refl sets

-- simplifying leaves out sets and changes nothing else
pub simplified-sub : (sets : List CriticalSet) → Sublistᴰ (simplified sets) sets
unfolding simplified
simplified-sub sets = simplified-from-sub (length sets) 0 sets

-- ---- what doesn't change

-- simplified sets say the same as all the sets
pub simplified-same : (sets : List CriticalSet) → SameSets (simplified sets) sets
simplified-same sets =
    record { there = simplified-covers sets; back = λ set m. cover_in set (sub-member (simplified-sub sets) m) (covered_self set) }

-- simplifying doesn't change the bound
pub simplified-bound : (day : SetsDay) (sets : List CriticalSet) → bound_of day (simplified sets) ≡ bound_of day sets
simplified-bound day sets = same-bound day (simplified sets) sets (simplified-same sets)

-- what a level's list of the simplified sets holds, that of all the sets holds too, as a set of choices
pub simplified-listed : (levels : List ℕ) (sets : List CriticalSet) (limit : ℕ) (set : CriticalSet) → Memᴰ set (level_list levels (simplified sets) limit)
    → (found : CriticalSet) × Memᴰ found (level_list levels sets limit) × (same_choices found.members set.members ≡ true)
simplified-listed levels sets = same-listed levels (simplified sets) sets (simplified-same sets)

-- what a level's list of all the sets holds, that of the simplified sets holds too, as a set of choices
pub listed-simplified : (levels : List ℕ) (sets : List CriticalSet) (limit : ℕ) (set : CriticalSet) → Memᴰ set (level_list levels sets limit)
    → (found : CriticalSet) × Memᴰ found (level_list levels (simplified sets) limit) × (same_choices found.members set.members ≡ true)
listed-simplified levels sets = same-listed levels sets (simplified sets) (same-sets-turned (simplified sets) sets (simplified-same sets))

-- ---- of kept sets

module _ (day : SetsDay) (fits : sets_lengths_fit day ≡ true) (rise : levels_rise day.levels ≡ true) where
  -- simplifying kept sets changes no level's list
  pub simplified-level-list : (levels : List ℕ) (limit : ℕ) → level_list levels (simplified (kept_sets day)) limit ≡ level_list levels (kept_sets day) limit
  simplified-level-list levels limit =
      same_sublists (by_size limit (kept_sets day)) (by-size-once (kept_sets day) limit (kept-once day fits rise))
      (level_list levels (simplified (kept_sets day)) limit) (level_list levels (kept_sets day) limit)
      (Sublistᴰ.trans (level-list-sub levels (simplified (kept_sets day)) limit) (by-size-sub limit (simplified-sub (kept_sets day))))
      (level-list-sub levels (kept_sets day) limit)
      (λ set m.
      let r = simplified-listed levels (kept_sets day) limit set m in
      Memᴰ.cast
      (sym (kept-same-choices day fits rise r.0 set (listed_above levels (kept_sets day) limit r.0 r.1).0
      (sub-member (simplified-sub (kept_sets day)) (listed_above levels (simplified (kept_sets day)) limit set m).0) r.2))
      r.1)
      (λ set m.
      let r = listed-simplified levels (kept_sets day) limit set m in
      Memᴰ.cast
      (sym (kept-same-choices day fits rise r.0 set
      (sub-member (simplified-sub (kept_sets day)) (listed_above levels (simplified (kept_sets day)) limit r.0 r.1).0)
      (listed_above levels (kept_sets day) limit set m).0 r.2))
      r.1)
