-- The sample day: two mandatory choices 0..1 in two slots for one chooser have two plans and seven nodes.
use mathlib.Core.Path.{◌≡◌, refl}
use mathlib.Core.List.{[], ◌∷◌, flat_map}
use Rattle.base_lists.specs.All.{all_of}
use Rattle.base_lists.specs.Below.{all_below, sum_below}
use Rattle.base_lists.specs.Keep.{keep}
use Rattle.plan_check.specs.Day.{Day, day_of}
use Rattle.plan_check.specs.Plan.{slot_of, omitted, stands_in, sum_up_to, sum_in}
use Rattle.plan_check.specs.Rows.{keeps_rows}
use Rattle.plan_check.specs.Feasible.{omission_allowed, place_allowed, places_allowed, slot_fits, feasible}
use Rattle.list_nodes.specs.Placements.{slots_from, places, placements, plans, page, is_node, nodes}

abbrev sample : Day
sample =
    day_of (record { choices = 2; slots = 2; choosers = 1; rows = 0 }) (0 ∷ 0 ∷ []) (1 ∷ 1 ∷ []) (0 ∷ 0 ∷ []) []

pub sample-plans : plans sample ≡ (0 ∷ 1 ∷ []) ∷ (1 ∷ 0 ∷ []) ∷ []
unfolding plans placements places slots_from flat_map keep feasible places_allowed place_allowed omission_allowed slot_fits slot_of omitted stands_in sum_up_to sum_in keeps_rows all_of all_below sum_below
sample-plans = refl

pub sample-nodes : nodes sample ≡ 7
unfolding nodes is_node placements places slots_from flat_map keep places_allowed place_allowed omission_allowed slot_of omitted stands_in sum_up_to sum_in all_below sum_below
sample-nodes = refl

-- the sample day's second page of one plan
pub sample-page : page sample 1 1 ≡ (1 ∷ 0 ∷ []) ∷ []
unfolding page plans placements places slots_from flat_map keep feasible places_allowed place_allowed omission_allowed slot_fits slot_of omitted stands_in sum_up_to sum_in keeps_rows all_of all_below sum_below
sample-page = refl
