-- A roster: the seats of a choice, and the preferences met.
use Rattle.std.specs.Prelude.{Bool, ◌&&◌, ◌||◌, List, ℕ, zero, suc, ◌+◌, ◌*◌, max, leb, get_or}
use Rattle.base_lists.specs.Group.{times_in}
use Rattle.plan_check.specs.Plan.{omitted}
use Rattle.roster_rows.specs.Cells.{cells_of}

-- a choice's seats: the cells of all choosers that name it
unfoldable pub seats_of : List ℕ → ℕ → ℕ
seats_of roster choice = times_in choice roster

-- 'Each scheduled choice has min to max seats'; 'An omitted mandatory choice isn't faulted here'
unfoldable pub seats_fit : List ℕ → List ℕ → List ℕ → List ℕ → ℕ → Bool
seats_fit mins maxs plan roster choice =
    omitted plan choice
    || (leb (get_or mins choice 0) (seats_of roster choice) && leb (seats_of roster choice) (get_or maxs choice 0))

-- the preference of the chooser for the choice that its cell at index s names
unfoldable pub preference_met : ℕ → ℕ → List ℕ → List ℕ → ℕ → ℕ → ℕ
preference_met choices slots preferences roster chooser s =
    get_or preferences (chooser * choices + get_or (cells_of slots roster chooser) s 0) 0

-- the highest of what the function gives for the numbers below the bound, 0 where there is none
unfoldable pub highest_below : ℕ → (ℕ → ℕ) → ℕ
highest_below zero f = 0
highest_below (suc n) f = max (highest_below n f) (f n)

-- 'the highest preference met, 0 for an empty roster'
unfoldable pub highest_met : ℕ → ℕ → ℕ → List ℕ → List ℕ → ℕ
highest_met choices slots choosers preferences roster =
    highest_below choosers λ chooser.
    highest_below slots (preference_met choices slots preferences roster chooser)
