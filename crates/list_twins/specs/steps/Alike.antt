-- What the passes over the rows and over the slots make: sets of slots.
use Rattle.std.specs.Prelude.{Bool, ◌&&◌, ◌||◌, not, List, ℕ, ◌+◌, min, eqb, get_or}
use Rattle.base_choice_sets.specs.Sets.{has, set_of}

-- the slots of either of two sets
unfoldable pub either_of : ℕ → ℕ → ℕ
either_of one other = set_of 64 λ slot. has one slot || has other slot

-- the slot that is so much higher and so much lower than a place, none of an omitted one
unfoldable pub asked_of : ℕ → ℕ → ℕ → ℕ
asked_of place up down = set_of 64 λ slot. not (eqb place 255) && eqb (slot + down) (place + up)

-- the other slot isn't named and has the sums of the one, of maximums as far as the choosers go
unfoldable pub alike : ℕ → ℕ → List ℕ → List ℕ → ℕ → ℕ → Bool
alike choosers names sums fills slot other =
    not (has names other)
    && eqb (get_or sums slot 0) (get_or sums other 0)
    && eqb (min (get_or fills slot 0) choosers) (min (get_or fills other 0) choosers)
