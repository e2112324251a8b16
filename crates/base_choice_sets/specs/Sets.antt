-- A set of choices is one number: bit c tells whether choice c is in it. No promise above speaks of bits,
-- only of `has`.
use Rattle.std.specs.Prelude.{Bool, ◌&&◌, ◌||◌, not, ℕ, zero, suc, ◌+◌, ◌*◌, ◌/◌, ◌%◌, ◌^◌, eqb}
use Rattle.base_lists.specs.Below.{one, all_below, count_below}

-- the choice is in the set
unfoldable pub has : ℕ → ℕ → Bool
has set choice = eqb (set / 2 ^ choice % 2) 1

-- the set of the choices below n that pass the test
unfoldable pub set_of : ℕ → (ℕ → Bool) → ℕ
set_of zero p = 0
set_of (suc n) p = set_of n p + one (p n) * 2 ^ n

-- how many choices are in the set
unfoldable pub size_of : ℕ → ℕ
size_of set = count_below 64 (has set)

-- every choice of the inner set is in the outer one: the outer is 'a superset'
unfoldable pub within : ℕ → ℕ → Bool
within inner outer = all_below 64 λ choice. not (has inner choice) || has outer choice

-- the two sets have the same choices
unfoldable pub same_choices : ℕ → ℕ → Bool
same_choices one other = within one other && within other one

-- the set with one choice more; no choice is past 63
unfoldable pub with_choice : ℕ → ℕ → ℕ
with_choice set choice = set_of 64 λ c. has set c || eqb c choice

-- some choice is in both sets
unfoldable pub meets : ℕ → ℕ → Bool
meets one other = not (all_below 64 λ choice. not (has one choice && has other choice))
