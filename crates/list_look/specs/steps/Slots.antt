-- The open places by the choice's own numbers: its minimum, its maximum and its flag.
use Rattle.std.specs.Prelude.{Bool, ◌&&◌, cond, List, ℕ, ◌+◌, ◌-◌, eqb, ltb, leb, get_or}
use Rattle.base_choice_sets.specs.Sets.{has, set_of}

-- a slot of the domain whose sum stays within the headcount
unfoldable pub slot_fits : ℕ → ℕ → List ℕ → ℕ → ℕ → Bool
slot_fits choosers least sums domain slot = leb (get_or sums slot 0 + least) choosers && has domain slot

-- a place of the domain that fits: a slot whose sum stays within the headcount, or omission if the flag says
-- so
unfoldable pub fits_at : ℕ → ℕ → ℕ → ℕ → List ℕ → ℕ → ℕ → Bool
fits_at slots choosers least flag sums domain at =
    cond (ltb at slots) (leb (get_or sums at 0 + least) choosers) (eqb flag 1) && has domain at

-- the places of the domain that fit
unfoldable pub fitting : ℕ → ℕ → ℕ → ℕ → List ℕ → ℕ → ℕ
fitting slots choosers least flag sums domain =
    set_of (slots + 1) (fits_at slots choosers least flag sums domain)

-- the choice in the slot leaves enough for the others: the rest of the slot's lack takes so little of what
-- the choices after weigh
unfoldable pub leaves_enough : (ℕ → ℕ → ℕ → ℕ) → ℕ → ℕ → List ℕ → ℕ → ℕ → ℕ → ℕ → Bool
leaves_enough entry choosers from fills most need spare slot =
    leb (entry 1 from (choosers - get_or fills slot 0 - most) + need)
    (spare + entry 1 from (choosers - get_or fills slot 0))

-- a slot that is open to a choice that is needed: it fits, and the choice there leaves enough
unfoldable pub slot_open : (ℕ → ℕ → ℕ → ℕ) → ℕ → ℕ → List ℕ → ℕ → List ℕ → ℕ → ℕ → ℕ → ℕ → ℕ → Bool
slot_open entry choosers from fills least sums most need spare domain slot =
    slot_fits choosers least sums domain slot && leaves_enough entry choosers from fills most need spare slot
