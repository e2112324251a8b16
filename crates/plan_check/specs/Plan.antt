-- 'A plan gives each choice a slot or 255 for omitted': where choices stand, and what stands in a slot.
use Rattle.std.specs.Prelude.{Bool, ◌&&◌, not, cond, List, ℕ, eqb, length, get_or}
use Rattle.base_lists.specs.Below.{count_below, sum_below}

-- a choice's byte; a choice past the plan's end is omitted
unfoldable pub slot_of : List ℕ → ℕ → ℕ
slot_of plan choice = get_or plan choice 255

-- a choice is omitted: its byte is 255
unfoldable pub omitted : List ℕ → ℕ → Bool
omitted plan choice = eqb (slot_of plan choice) 255

-- a choice stands in a slot: it is scheduled, and its byte is that slot
unfoldable pub stands_in : List ℕ → ℕ → ℕ → Bool
stands_in plan choice slot = not (omitted plan choice) && eqb (slot_of plan choice) slot

-- 'count of choices in the slot'
unfoldable pub count_in : List ℕ → ℕ → ℕ
count_in plan slot = count_below (length plan) λ choice. stands_in plan choice slot

-- the first choices' amounts summed over those that stand in the slot
unfoldable pub sum_up_to : ℕ → (ℕ → ℕ) → List ℕ → ℕ → ℕ
sum_up_to choices amount plan slot =
    sum_below choices λ choice. cond (stands_in plan choice slot) (amount choice) 0

-- a slot's 'sum of min' or 'sum of max'
unfoldable pub sum_in : List ℕ → List ℕ → ℕ → ℕ
sum_in amounts plan slot = sum_up_to (length plan) (λ choice. get_or amounts choice 0) plan slot

-- 'Omitted needs optional': a byte of 255, of a choice whose flag is 1
unfoldable pub omission_allowed : ℕ → ℕ → Bool
omission_allowed place flag = eqb place 255 && eqb flag 1
