-- Small days, computed from the definitions.
use mathlib.Core.Path.{◌≡◌, refl}
use mathlib.Core.List.{[], ◌∷◌}
use Rattle.base_lists.specs.All.{all_of}
use Rattle.base_lists.specs.Below.{one, all_below, count_below, sum_below}
use Rattle.base_lists.specs.Flat.{list_below, join_below}
use Rattle.base_lists.specs.Keep.{keep, any_of}
use Rattle.base_choice_sets.specs.Sets.{has, set_of, size_of, within, same_choices}
use Rattle.day_rows.specs.Levels.{last_level}
use Rattle.sets_analysis.specs.SetsDay.{SetsDay, day_of, preference_of}
use Rattle.sets_analysis.specs.Kept.{critical_set, candidate_of, level_down, candidates, min_sum, room_of, covered_by, skipped, kept_from, kept_sets, same_set, stays_beside, dropped_at, simplified_from, simplified}
use Rattle.sets_analysis.specs.Bound.{is_above, is_large, lowers, lowered_to, bound_of}
use Rattle.sets_analysis.specs.LevelList.{by_size, minimal_from, level_list}

-- three choices of min 0, S 2, levels 0 and 9: one chooser wants choices 0 and 1, the next choice 0, the last
-- choice 2
unfoldable pub three_wishes : SetsDay
three_wishes =
    day_of (record { choices = 3; slots = 2; choosers = 3; levels = 2 }) (0 ∷ 0 ∷ 0 ∷ []) (0 ∷ 9 ∷ []) (0 ∷ 0 ∷ 9 ∷ 0 ∷ 9 ∷ 9 ∷ 9 ∷ 9 ∷ 0 ∷ [])

-- its kept sets: at level 9 all choices, once; at level 0 each chooser's own
pub three-kept : kept_sets three_wishes ≡ critical_set 9 7 ∷ critical_set 0 3 ∷ critical_set 0 1 ∷ critical_set 0 4 ∷ []
unfolding three_wishes kept_sets candidates kept_from skipped candidate_of level_down preference_of min_sum room_of covered_by within has set_of one all_below sum_below list_below join_below any_of
three-kept = refl

-- choice 0 alone covers choices 0 and 1, which simplifying drops
pub three-simplified : simplified (kept_sets three_wishes) ≡ critical_set 9 7 ∷ critical_set 0 1 ∷ critical_set 0 4 ∷ []
unfolding three_wishes kept_sets candidates kept_from skipped candidate_of level_down preference_of min_sum room_of covered_by within has set_of one all_below sum_below list_below join_below any_of simplified simplified_from dropped_at stays_beside same_set same_choices keep
three-simplified = refl

-- the list of level 0: by size, first of equals first, all choices dropped
pub three-listed : level_list (0 ∷ 9 ∷ []) (kept_sets three_wishes) 0 ≡ critical_set 0 1 ∷ critical_set 0 4 ∷ []
unfolding three_wishes kept_sets candidates kept_from skipped candidate_of level_down preference_of min_sum room_of covered_by within has set_of size_of one all_below count_below sum_below list_below join_below any_of keep level_list minimal_from by_size is_above
three-listed = refl

-- the bound stays at 9: at level 0 a set has fewer than 2 members
pub three-bound : bound_of three_wishes (kept_sets three_wishes) ≡ 9
unfolding three_wishes kept_sets candidates kept_from skipped candidate_of level_down preference_of min_sum room_of covered_by within has set_of size_of one all_below count_below sum_below list_below join_below any_of keep all_of bound_of lowered_to lowers is_above is_large last_level
three-bound = refl
