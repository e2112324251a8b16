-- The listing as the code makes it: choice by choice, with each slot's sum of minimums beside the start.
use Rattle.std.specs.Prelude.{Bool, ◌&&◌, cond, ℕ, zero, suc, ◌+◌, ◌-◌, ◌*◌, ltb, leb, length, get_or, set}
use mathlib.Core.List.{List, [], ◌∷◌, ◌++◌, flat_map}
use Rattle.std.proofs.lemmas.List.Edits.{sets}
use Rattle.base_lists.specs.Keep.{sum_over}
use Rattle.plan_check.specs.Day.{Day}
use Rattle.plan_check.specs.Feasible.{omission_allowed, feasible}
use Rattle.list_nodes.specs.Placements.{slots_from, places}

-- the places from a slot on
unfoldable pub places_from : ℕ → ℕ → List ℕ
places_from slots slot = slots_from slot (slots - slot) ++ (255 ∷ [])

-- the place at a position: the slots by their numbers, then omission
unfoldable pub place_of : ℕ → ℕ → ℕ
place_of slots at = cond (ltb at slots) at 255

-- a choice may take a place: a slot whose sum stays within the headcount, or omission if it is optional
unfoldable pub place_fits : ℕ → ℕ → List ℕ → List ℕ → List ℕ → ℕ → ℕ → Bool
place_fits slots choosers mins optional sums choice place =
    cond (ltb place slots) (leb (get_or sums place 0 + get_or mins choice 0) choosers)
    (omission_allowed place (get_or optional choice 0))

-- how many places are left from the next one on that a choice may take, of the last so many; 0 if there is
-- none
unfoldable pub next_open : ℕ → ℕ → List ℕ → List ℕ → List ℕ → ℕ → ℕ → ℕ
next_open slots choosers mins optional sums choice zero = 0
next_open slots choosers mins optional sums choice (suc left) =
    cond (place_fits slots choosers mins optional sums choice (place_of slots (slots - left))) (suc left)
    (next_open slots choosers mins optional sums choice left)

-- the sums once a choice stands at a place
unfoldable pub sums_with : ℕ → List ℕ → List ℕ → ℕ → ℕ → List ℕ
sums_with slots mins sums choice place =
    cond (ltb place slots) (set sums place (get_or sums place 0 + get_or mins choice 0)) sums

-- the sums once a choice has left its place again
unfoldable pub sums_without : ℕ → List ℕ → List ℕ → ℕ → ℕ → List ℕ
sums_without slots mins sums choice place =
    cond (ltb place slots) (set sums place (get_or sums place 0 - get_or mins choice 0)) sums

-- the nodes that begin with a start, by the choices left, the next choice and the sums
unfoldable pub nodes_from : ℕ → ℕ → List ℕ → List ℕ → ℕ → ℕ → List ℕ → ℕ
nodes_from slots choosers mins optional zero choice sums = 1
nodes_from slots choosers mins optional (suc n) choice sums =
    suc
    (sum_over
    (λ place. cond (place_fits slots choosers mins optional sums choice place)
    (nodes_from slots choosers mins optional n (choice + 1) (sums_with slots mins sums choice place))
    0)
    (places slots))

-- the nodes that go on from a start with one place
unfoldable pub nodes_at : ℕ → ℕ → List ℕ → List ℕ → ℕ → ℕ → List ℕ → ℕ → ℕ
nodes_at slots choosers mins optional n choice sums place =
    cond (place_fits slots choosers mins optional sums choice place)
    (nodes_from slots choosers mins optional n (choice + 1) (sums_with slots mins sums choice place))
    0

-- the nodes that go on from a start with a place from a slot on
unfoldable pub nodes_past : ℕ → ℕ → List ℕ → List ℕ → ℕ → ℕ → List ℕ → ℕ → ℕ
nodes_past slots choosers mins optional n choice sums slot =
    sum_over (nodes_at slots choosers mins optional n choice sums) (places_from slots slot)

-- the next choice of a start may take a place
unfoldable pub goes_to : Day → List ℕ → List ℕ → ℕ → Bool
goes_to day start sums place =
    place_fits day.counts.slots day.counts.choosers day.mins day.optional sums (length start)
    place

-- the sums once the next choice of a start takes a place
unfoldable pub sums_to : Day → List ℕ → List ℕ → ℕ → List ℕ
sums_to day start sums place = sums_with day.counts.slots day.mins sums (length start) place

-- a full start is a plan if the plan check passes it
unfoldable pub if_feasible : Day → List ℕ → List (List ℕ)
if_feasible day plan = cond (feasible day plan) (plan ∷ []) []

-- the feasible plans that begin with a start, by the choices left and the sums
unfoldable pub plans_from : Day → ℕ → List ℕ → List ℕ → List (List ℕ)
plans_from day zero start sums = if_feasible day start
plans_from day (suc n) start sums =
    flat_map
    (λ place. cond (goes_to day start sums place)
    (plans_from day n (start ++ (place ∷ [])) (sums_to day start sums place)) [])
    (places day.counts.slots)

-- the feasible plans that go on from a start with one place
unfoldable pub plans_at : Day → ℕ → List ℕ → List ℕ → ℕ → List (List ℕ)
plans_at day n start sums place =
    cond (goes_to day start sums place)
    (plans_from day n (start ++ (place ∷ [])) (sums_to day start sums place))
    []

-- the feasible plans that go on from a start with one of the last so many places
unfoldable pub plans_left : Day → ℕ → List ℕ → List ℕ → ℕ → List (List ℕ)
plans_left day n start sums zero = []
plans_left day n start sums (suc left) =
    plans_at day n start sums (place_of day.counts.slots (day.counts.slots - left))
    ++ plans_left day n start sums left

-- a plan of the page goes to its place in the buffer, one of another page nowhere
unfoldable pub put_plan : ℕ → ℕ → List ℕ → ℕ → List ℕ → List ℕ
put_plan first room buffer number plan =
    cond (leb first number && ltb (number - first) room) (sets buffer ((number - first) * length plan) plan)
    buffer

-- the buffer with these plans, numbered one after another from a number on
unfoldable pub put_plans : ℕ → ℕ → List ℕ → ℕ → List (List ℕ) → List ℕ
put_plans first room buffer number [] = buffer
put_plans first room buffer number (plan ∷ plans) =
    put_plans first room (put_plan first room buffer number plan) (number + 1) plans
