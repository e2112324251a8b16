-- A day on which a later kept set covers an earlier one, so that simplifying drops it, and neither the bound
-- nor a level's list changes.
use mathlib.Core.Path.{◌≡◌, refl}
use mathlib.Core.List.{[], ◌∷◌}
use Rattle.base_lists.specs.All.{all_of}
use Rattle.base_lists.specs.Below.{one, all_below, count_below, sum_below}
use Rattle.base_lists.specs.Flat.{list_below, join_below}
use Rattle.base_lists.specs.Keep.{keep, any_of}
use Rattle.base_choice_sets.specs.Sets.{has, set_of, size_of, within, same_choices}
use Rattle.day_rows.specs.Levels.{last_level}
use Rattle.sets_analysis.specs.SetsDay.{SetsDay, preference_of}
use Rattle.sets_analysis.specs.Kept.{critical_set, candidate_of, level_down, candidates, min_sum, room_of, covered_by, skipped, kept_from, kept_sets, same_set, stays_beside, dropped_at, simplified_from, simplified}
use Rattle.sets_analysis.specs.Bound.{is_above, is_large, lowers, lowered_to, bound_of}
use Rattle.sets_analysis.specs.LevelList.{by_size, minimal_from, level_list}

-- the day: three choices, two slots, levels 0 and 1; one chooser wants choices 0 and 1, the next choice 0
abbrev pub example : SetsDay
example =
    record {
      counts = record { choices = 3; slots = 2; choosers = 2; levels = 2 };
      mins = 0 ∷ 0 ∷ 0 ∷ [];
      levels = 0 ∷ 1 ∷ [];
      preferences = 0 ∷ 0 ∷ 1 ∷ 0 ∷ 1 ∷ 1 ∷ [];
    }

-- its kept sets: all choices at level 1; at level 0 choices 0 and 1, then choice 0 alone
pub example-kept : kept_sets example ≡ critical_set 1 7 ∷ critical_set 0 3 ∷ critical_set 0 1 ∷ []
unfolding kept_sets kept_from candidates candidate_of level_down preference_of min_sum room_of covered_by skipped list_below join_below any_of has set_of one within all_below sum_below
example-kept = refl

-- simplifying drops the second kept set, which the last covers
pub example-simplified : simplified (critical_set 1 7 ∷ critical_set 0 3 ∷ critical_set 0 1 ∷ []) ≡ critical_set 1 7 ∷ critical_set 0 1 ∷ []
unfolding simplified simplified_from dropped_at stays_beside same_set same_choices covered_by keep has within all_below
example-simplified = refl

-- the bound stays at 1: with two slots no level below the last has only large sets
pub example-bound : bound_of example (critical_set 1 7 ∷ critical_set 0 1 ∷ []) ≡ 1
unfolding bound_of lowered_to lowers is_above is_large last_level size_of has count_below one any_of all_of keep
example-bound = refl

-- at limit 0 the smallest set alone is listed
pub example-listed : level_list (0 ∷ 1 ∷ []) (critical_set 1 7 ∷ critical_set 0 3 ∷ critical_set 0 1 ∷ []) 0 ≡ critical_set 0 1 ∷ []
unfolding level_list minimal_from by_size join_below is_above size_of has count_below one any_of keep within all_below
example-listed = refl
