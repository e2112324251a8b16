-- A small machine, computed: two choices, a place 0 or 1 for each, and a plan is good if both places are 1.
use mathlib.Core.Path.{◌≡◌, refl}
use mathlib.Core.Bool.{true, false, cond}
use mathlib.Core.List.{List, [], ◌∷◌}
use Prim.Native.Nat.{ℕ, ◌+◌, ◌-◌, ◌^◌}
use lib.Dec.{eqb}
use lib.ListN.{length}
use Rattle.base_lists.specs.Below.{sum_below}
use Rattle.search_rules.specs.Walk.{Sight, goal, over, on, hit, dry, cut, turn, opened, used, walk, pass}
use Rattle.search_rules.specs.steps.Closing.{walk_closes, pass_closes}
use Rattle.search_rules.specs.Turns.{sum_of_powers, turns_enough}

-- both places are 1: a plan; else the pass goes on from depth 2 too, as the full search
abbrev full : List ℕ → Sight
full [] = on
full (place ∷ []) = on
full (second ∷ first ∷ places) = cond (eqb (first + second) 2) goal on

-- both places are 1: a plan; else the pass ends at depth 2, as the Rust
abbrev as_rust : List ℕ → Sight
as_rust [] = on
as_rust (place ∷ []) = on
as_rust (second ∷ first ∷ places) = cond (eqb (first + second) 2) goal over

-- places 0 and 1 at depth 0 and 1, none at depth 2
abbrev zero_one : List ℕ → ℕ → List ℕ
zero_one places drawn = cond (eqb (length places) 2) [] (0 ∷ 1 ∷ [])

-- each bucket of candidates uses a draw
abbrev each : List ℕ → ℕ → ℕ
each places drawn = cond (eqb (length places) 2) drawn (drawn + 1)

-- ten turns: down to 0, to 0 0, back, to 0 1, back, back, down to 1, to 1 0, back, to 1 1
pub example-full : pass full zero_one each (2 ^ 64 - 1) 0 ≡ hit (2 ^ 64 - 11) (1 ∷ 1 ∷ []) 3
unfolding walk pass turn opened used
example-full = refl

-- as the Rust: the first plan fails, and the pass ends after two turns
pub example_rust : pass as_rust zero_one each (2 ^ 64 - 1) 0 ≡ dry (2 ^ 64 - 3) 2
unfolding walk pass turn opened used
example_rust = refl

-- as the Rust the pass is over at depth 2: it doesn't end by the closing turn
pub example_rust_over : pass_closes as_rust zero_one each (2 ^ 64 - 1) 0 ≡ false
unfolding pass_closes walk_closes turn opened used
example_rust_over = refl

-- one turn too few: the pass is back from 1 0, and needs the turn to 1 1
pub example-cut : pass full zero_one each 9 0 ≡ cut 3
unfolding walk pass turn opened used
example-cut = refl

-- without a turn no candidates are made, and no draw is used
pub example-none : pass full zero_one each 0 7 ≡ cut 7
unfolding walk pass turn opened used
example-none = refl

-- no place is a goal: all six starts are come to, down and back, and the thirteenth turn closes the pass
abbrev never : List ℕ → Sight
never places = on

-- b + b^2 at two depths with two candidates each
pub example-enough : turns_enough 2 2 ≡ 13
unfolding turns_enough sum_of_powers sum_below
example-enough = refl

-- thirteen turns are just enough
pub example-closes : pass never zero_one each 13 0 ≡ dry 0 3
unfolding walk pass turn opened used
example-closes = refl

-- the pass ends by the closing turn
pub example_closing : pass_closes never zero_one each 13 0 ≡ true
unfolding pass_closes walk_closes turn opened used
example_closing = refl

-- one turn fewer isn't enough
pub example-fewer : pass never zero_one each 12 0 ≡ cut 3
unfolding walk pass turn opened used
example-fewer = refl
