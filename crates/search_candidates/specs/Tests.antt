-- The tests of a new depth: 'no candidate if ..', and which slots are critical.
use Rattle.std.specs.Prelude.{Bool, not, List, ℕ, ◌+◌, ◌-◌, eqb, ltb, leb}
use Rattle.base_lists.specs.Below.{all_below}
use Rattle.base_lists.specs.Flat.{list_below}
use Rattle.base_lists.specs.Group.{keep_below}
use Rattle.base_choice_sets.specs.Sets.{set_of}
use Rattle.base_choice_sets.specs.Reach.{some_stuck}
use Rattle.search_candidates.specs.Allow.{decision_of, is_undecided}
use Rattle.search_candidates.specs.Loads.{Loads, max_of}

-- 'for some slot slot max + remaining max (this choice included) < H'
unfoldable pub some_short : ℕ → ℕ → Loads → ℕ → Bool
some_short slots choosers loads remaining =
    not (all_below slots λ slot. leb choosers (max_of loads slot + remaining))

-- the choices that stand in each slot, each slot's as a set
unfoldable pub held_by : ℕ → ℕ → List ℕ → List ℕ
held_by choices slots decisions =
    list_below slots λ slot. set_of choices λ choice. eqb (decision_of decisions choice) slot

-- the undecided choices as a set
unfoldable pub undecided_of : ℕ → List ℕ → ℕ
undecided_of choices decisions = set_of choices (is_undecided decisions)

-- 'a critical set has distinct covered slots + undecided members < S'
unfoldable pub sets_stuck : ℕ → ℕ → List ℕ → List ℕ → Bool
sets_stuck choices slots decisions sets =
    some_stuck (held_by choices slots decisions) (undecided_of choices decisions) sets

-- 'slots with slot max + remaining max - this max < H are critical'; what remains holds this max
unfoldable pub critical_slots : ℕ → ℕ → Loads → ℕ → ℕ → List ℕ
critical_slots slots choosers loads remaining max =
    keep_below slots λ slot. ltb (max_of loads slot + (remaining - max)) choosers
