-- The heaviest of the free choices: where the slots can do without it they can do without any one choice.
use Rattle.std.specs.Prelude.{cond, ℕ, zero, suc, max}
use Rattle.base_choice_sets.specs.Sets.{has}

-- what the heaviest of the first choices weighs that are free, 0 where none is
unfoldable pub heaviest_of : ℕ → (ℕ → ℕ → ℕ) → ℕ → ℕ → ℕ
heaviest_of zero weight table free = 0
heaviest_of (suc choice) weight table free =
    max (heaviest_of choice weight table free) (cond (has free choice) (weight table choice) 0)
