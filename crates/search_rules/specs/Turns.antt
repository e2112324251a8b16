-- How many turns are enough for a pass.
use Rattle.std.specs.Prelude.{ℕ, ◌+◌, ◌*◌, ◌^◌}
use Rattle.base_lists.specs.Below.{sum_below}

-- b + b^2 + .. + b^k
unfoldable pub sum_of_powers : ℕ → ℕ → ℕ
sum_of_powers b k = sum_below k (λ i. b ^ (i + 1))

-- enough turns with at most b candidates at each of k depths: down to each of so many starts and back, and
-- the closing turn
unfoldable pub turns_enough : ℕ → ℕ → ℕ
turns_enough b k = 2 * sum_of_powers b k + 1
