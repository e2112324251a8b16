-- A domain's slots moved up or down within the day's slots, and omission put beside them.
use Rattle.std.specs.Prelude.{◌&&◌, ◌||◌, ℕ, ◌+◌, ◌-◌, eqb, ltb, leb}
use Rattle.base_choice_sets.specs.Sets.{has, set_of}

-- the slots of a domain, each moved so much higher
unfoldable pub slots_up : ℕ → ℕ → ℕ → ℕ
slots_up slots domain by = set_of 64 λ p. ltb p slots && (leb by p && has domain (p - by))

-- the slots of a domain, each moved so much lower
unfoldable pub slots_down : ℕ → ℕ → ℕ → ℕ
slots_down slots domain by = set_of 64 λ p. ltb (p + by) slots && has domain (p + by)

-- the moved slots, and omission if the domain has it
unfoldable pub with_omission : ℕ → ℕ → ℕ → ℕ
with_omission slots moved domain = set_of 64 λ p. has moved p || (eqb p slots && has domain p)
