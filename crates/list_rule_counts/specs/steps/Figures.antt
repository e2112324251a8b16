-- The figures by the array that the code keeps: how many settled choices stand in each slot.
use Rattle.std.specs.Prelude.{cond, List, ℕ, ◌+◌, ◌-◌, get_or}
use Rattle.base_choice_sets.specs.Sets.{has}
use Rattle.list_domains.specs.steps.Domains.{both_places}

-- the fewest choices that a slot has by its sums
unfoldable pub fewest_in : (ℕ → ℕ → ℕ → ℕ) → ℕ → List ℕ → List ℕ → ℕ → ℕ
fewest_in entry from lacks settled slot = get_or settled slot 0 + entry 0 from (get_or lacks slot 0)

-- a slot's figure without the settled choices that stand there
unfoldable pub beyond_in : List ℕ → List ℕ → ℕ → ℕ
beyond_in figures settled slot = get_or figures slot 0 - get_or settled slot 0

-- a free choice keeps of its domain what is in the set
unfoldable pub keeps_of : ℕ → ℕ → ℕ → ℕ → ℕ
keeps_of free set choice domain = cond (has free choice) (both_places domain set) domain
