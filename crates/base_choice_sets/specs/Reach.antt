-- The search's test of a critical set: 'distinct covered slots + undecided members < S'.
use Rattle.std.specs.Prelude.{Bool, ◌&&◌, List, ℕ, ◌+◌, ltb, length, get_or}
use Rattle.base_lists.specs.Below.{count_below}
use Rattle.base_lists.specs.Keep.{any_of}
use Rattle.base_choice_sets.specs.Sets.{has, meets}

-- 'distinct covered slots' of a set: those in which a choice of the set stands; each slot is given by the set
-- of choices in it
unfoldable pub covered_slots : List ℕ → ℕ → ℕ
covered_slots slots set = count_below (length slots) λ slot. meets (get_or slots slot 0) set

-- 'undecided members' of a set: its choices among the undecided ones
unfoldable pub undecided_members : ℕ → ℕ → ℕ
undecided_members undecided set = count_below 64 λ choice. has set choice && has undecided choice

-- 'distinct covered slots + undecided members'
unfoldable pub reach_of : List ℕ → ℕ → ℕ → ℕ
reach_of slots undecided set = covered_slots slots set + undecided_members undecided set

-- '< S': the set can't reach every slot any more
unfoldable pub stuck : List ℕ → ℕ → ℕ → Bool
stuck slots undecided set = ltb (reach_of slots undecided set) (length slots)

-- 'a critical set has distinct covered slots + undecided members < S', of a list of them
unfoldable pub some_stuck : List ℕ → ℕ → List ℕ → Bool
some_stuck slots undecided sets = any_of (stuck slots undecided) sets
