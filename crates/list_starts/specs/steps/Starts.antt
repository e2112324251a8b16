-- What the listing's functions do at a start, whatever they are lent.
use Rattle.std.specs.Prelude.{Bool, ◌&&◌, cond, List, ℕ, ◌+◌, ◌*◌, ◌^◌, eqb, ltb, leb, length, get_or}
use Rattle.base_lists.specs.Below.{all_below}
use Rattle.plan_check.specs.steps.Kept.{keeps_every}
use Rattle.list_nodes.specs.steps.Walk.{next_open, put_plan}

-- the next place that a choice may take, of at most 24 slots; of more there is none
unfoldable pub open_within : ℕ → ℕ → List ℕ → List ℕ → List ℕ → ℕ → ℕ → ℕ
open_within slots choosers mins optional sums choice left =
    cond (leb slots 24) (next_open slots choosers mins optional sums choice left) 0

-- a plan at its place on the page, if the buffer is as long as its room says
unfoldable pub put_within : ℕ → ℕ → List ℕ → ℕ → List ℕ → List ℕ
put_within first room buffer number plan =
    cond (eqb (length buffer) (room * length plan)) (put_plan first room buffer number plan) buffer

-- there are at most 24 slots, and each one's sum of maximums reaches the headcount
unfoldable pub slots_filled : ℕ → ℕ → List ℕ → Bool
slots_filled slots choosers fills = leb slots 24 && all_below slots λ slot. leb choosers (get_or fills slot 0)

-- what is left to test of a full start that is a node: the slots are filled, and the plan keeps its rows
unfoldable pub full_passes : ℕ → ℕ → List ℕ → List ℕ → List ℕ → Bool
full_passes slots choosers rows fills plan = slots_filled slots choosers fills && keeps_every plan rows

-- a full start gets a number: it passes, and there is one for the plan after it
unfoldable pub is_numbered : Bool → ℕ → Bool
is_numbered passes number = passes && ltb (number + 1) (2 ^ 64)

-- how many plans there are with a full start
unfoldable pub total_with : Bool → ℕ → ℕ
total_with passes number = cond (is_numbered passes number) (number + 1) number

-- the page's buffer with a full start
unfoldable pub page_with : Bool → ℕ → ℕ → List ℕ → List ℕ → ℕ → List ℕ
page_with passes first room plan buffer number =
    cond (is_numbered passes number) (put_within first room buffer number plan) buffer
