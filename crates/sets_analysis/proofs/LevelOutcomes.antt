-- No two answers fit what the functions of `level_tests` promise.
use mathlib.Core.Path.{◌≡◌}
use mathlib.Core.Bool.{Bool}
use Prim.Native.Nat.{ℕ, ◌-◌}
use lib.Dec.{leb}
use Rattle.base_lists.proofs.Outcome.{no_two}

-- is_not_higher
pub one-not-higher : (level other : ℕ) {a b : Bool} → a ≡ leb level other → b ≡ leb level other → a ≡ b
one-not-higher level other = no_two

-- is_at_or_above
pub one-at_or_above : (set_level level : ℕ) {a b : Bool} → a ≡ leb level set_level → b ≡ leb level set_level → a ≡ b
one-at_or_above set_level level = no_two

-- all_but_one
pub one_but_one : (slots : ℕ) {a b : ℕ} → a ≡ slots - 1 → b ≡ slots - 1 → a ≡ b
one_but_one slots = no_two
