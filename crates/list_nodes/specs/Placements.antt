-- 'The listing is defined by the plan check alone, with no search order': all placements in dictionary order,
-- those that pass, a page of them.
use Rattle.std.specs.Prelude.{Bool, ◌&&◌, ℕ, zero, suc, leb, length, take, drop}
use mathlib.Core.List.{List, [], ◌∷◌, ◌++◌, map, flat_map}
use Rattle.base_lists.specs.Below.{all_below, sum_below}
use Rattle.base_lists.specs.Keep.{keep}
use Rattle.plan_check.specs.Day.{Day}
use Rattle.plan_check.specs.Plan.{sum_in}
use Rattle.plan_check.specs.Feasible.{places_allowed, feasible}

-- n slots from the first on
unfoldable pub slots_from : ℕ → ℕ → List ℕ
slots_from first zero = []
slots_from first (suc n) = first ∷ slots_from (suc first) n

-- the places of a choice, 'slots before omission'
unfoldable pub places : ℕ → List ℕ
places slots = slots_from 0 slots ++ (255 ∷ [])

-- every way to place n choices, 'in dictionary order of the choices from 0 up'
unfoldable pub placements : ℕ → ℕ → List (List ℕ)
placements slots zero = [] ∷ []
placements slots (suc n) = flat_map (λ place. map (λ rest. place ∷ rest) (placements slots n)) (places slots)

-- 'every feasible plan' of a day: the placements that pass the plan check
unfoldable pub plans : Day → List (List ℕ)
plans day = keep (feasible day) (placements day.counts.slots day.counts.choices)

-- a page of the list by 'a first plan number (from 0) and a room in plans'
unfoldable pub page : Day → ℕ → ℕ → List (List ℕ)
page day first room = take room (drop first (plans day))

-- how many plans a day has: 'It also gives the total'
unfoldable pub total : Day → ℕ
total day = length (plans day)

-- a node: 'a start of a plan, the empty one included, with no mandatory choice omitted
-- and no slot's sum of minimums over the headcount'
unfoldable pub is_node : Day → List ℕ → Bool
is_node day start =
    places_allowed day.counts.slots day.optional start
    && all_below day.counts.slots λ slot. leb (sum_in day.mins start slot) day.counts.choosers

-- how many nodes a day has: 'Nodes visited', of the starts of each length from 0 to C
unfoldable pub nodes : Day → ℕ
nodes day =
    sum_below (suc day.counts.choices) λ n. length (keep (is_node day) (placements day.counts.slots n))
