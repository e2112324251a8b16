-- The places that the next choice may take: its domain has them, its minimum fits there, and with it there
-- the choices after it are still enough for what the slots lack.
use Rattle.std.specs.Prelude.{Bool, ◌&&◌, cond, List, ℕ, ◌+◌, leb, get_or}
use Rattle.day_rows.specs.declared.check.Counts.{Counts}
use Rattle.base_choice_sets.specs.Sets.{has, set_of}
use Rattle.list_nodes.specs.steps.Walk.{place_of, place_fits}
use Rattle.list_rule_tables.specs.steps.Enough.{enough_places}

-- whether a place, by its number in a domain, is open to the choice
unfoldable pub open_at : (ℕ → ℕ → ℕ → ℕ) → (ℕ → ℕ → ℕ) → Counts → List ℕ → List ℕ → List ℕ → ℕ → List ℕ
    → List ℕ → ℕ → ℕ → Bool
open_at entry weight counts mins maxs optional choice sums fills domain at =
    place_fits counts.slots counts.choosers mins optional sums choice (place_of counts.slots at)
    && has (enough_places entry weight counts choice (get_or maxs choice 0) fills domain) at

-- the places that are open to the choice; with more slots than a day has none is
unfoldable pub open_places : (ℕ → ℕ → ℕ → ℕ) → (ℕ → ℕ → ℕ) → Counts → List ℕ → List ℕ → List ℕ → ℕ → List ℕ
    → List ℕ → ℕ → ℕ
open_places entry weight counts mins maxs optional choice sums fills domain =
    cond (leb counts.slots 24)
    (set_of (counts.slots + 1) (open_at entry weight counts mins maxs optional choice sums fills domain))
    0
