-- Module 3's plan check: omissions, sums and rows.
use Rattle.std.specs.Prelude.{Bool, ◌&&◌, ◌||◌, List, ℕ, eqb, ltb, leb, length, get_or}
use Rattle.base_lists.specs.Below.{all_below}
use Rattle.plan_check.specs.Day.{Day}
use Rattle.plan_check.specs.Plan.{slot_of, sum_in}
use Rattle.plan_check.specs.Rows.{keeps_rows}
-- the omission's test, which stands beside the plan's bytes
unfoldable pub use Rattle.plan_check.specs.Plan.{omission_allowed}

-- a choice stands in one of the day's slots, or is omitted and may be
unfoldable pub place_allowed : ℕ → List ℕ → List ℕ → ℕ → Bool
place_allowed slots optional plan choice =
    ltb (slot_of plan choice) slots || omission_allowed (slot_of plan choice) (get_or optional choice 0)

-- every choice of the plan, or of a start of one, stands in a slot or is omitted and may be
unfoldable pub places_allowed : ℕ → List ℕ → List ℕ → Bool
places_allowed slots optional plan = all_below (length plan) (place_allowed slots optional plan)

-- 'Each slot: sum of min <= H <= sum of max'
unfoldable pub slot_fits : ℕ → List ℕ → List ℕ → List ℕ → ℕ → Bool
slot_fits choosers mins maxs plan slot =
    leb (sum_in mins plan slot) choosers && leb choosers (sum_in maxs plan slot)

-- the plan check: every place is allowed, every slot's sums fit, and every row is kept
unfoldable pub feasible : Day → List ℕ → Bool
feasible day plan =
    places_allowed day.counts.slots day.optional plan
    && all_below day.counts.slots (slot_fits day.counts.choosers day.mins day.maxs plan)
    && keeps_rows plan day.rows

-- 'every other slice .. at the length its counts give': what has an entry for each choice
unfoldable pub lengths_fit : ℕ → List ℕ → List ℕ → List ℕ → List ℕ → Bool
lengths_fit choices mins maxs optional plan =
    eqb (length mins) choices && eqb (length maxs) choices && eqb (length optional) choices
    && eqb (length plan) choices

-- the shape of a day: at most 64 choices and 24 slots, and an entry for each choice
unfoldable pub shapes_fit : Day → List ℕ → Bool
shapes_fit day plan =
    leb day.counts.choices 64
    && leb day.counts.slots 24
    && lengths_fit day.counts.choices day.mins day.maxs day.optional plan

-- the answer of `is_feasible`, the worker, on any input: what has no day's shape is not feasible
unfoldable pub is_feasible : Day → List ℕ → Bool
is_feasible day plan = shapes_fit day plan && feasible day plan
