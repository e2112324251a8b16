-- What is decided along a pass, by choice and by slot.
use Rattle.std.specs.Prelude.{List, [], ◌∷◌, ℕ, length, get_or, set, replicate}
use Rattle.base_lists.specs.Flat.{list_below}
use Rattle.plan_check.specs.Plan.{sum_in, count_in}
use Rattle.search_candidates.specs.Allow.{undecided}
use Rattle.search_candidates.specs.Loads.{Loads, loads_of}

-- the places decided, last first, as each choice's decision: the choice at depth d is entry d of the order
unfoldable pub decided : List ℕ → List ℕ → List ℕ
decided order [] = replicate 64 undecided
decided order (place ∷ places) = set (decided order places) (get_or order (length places) 0) place

-- each slot's sum of min, sum of max and count of the choices that are decided to stand there: 254 and 255
-- are no slot
unfoldable pub loads_at : List ℕ → List ℕ → List ℕ → Loads
loads_at mins maxs decisions =
    loads_of decisions (list_below 24 (sum_in mins decisions)) (list_below 24 (sum_in maxs decisions))
    (list_below 24 (count_in decisions))
