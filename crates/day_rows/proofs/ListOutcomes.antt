-- No two outcomes fit: each promise of src/lists.rt is an equation of the answer.
use mathlib.Core.Path.{◌≡◌}
use mathlib.Core.Bool.{Bool}
use mathlib.Core.List.{List}
use Prim.Native.Nat.{ℕ}
use Rattle.base_lists.specs.All.{all_at_most}
use Rattle.base_lists.proofs.Outcome.{no_two}
use Rattle.day_rows.specs.Levels.{levels_rise, last_level}

pub one-rise : (levels : List ℕ) {a b : Bool} → a ≡ levels_rise levels → b ≡ levels_rise levels → a ≡ b
one-rise levels = no_two

pub one_last : (levels : List ℕ) {a b : ℕ} → a ≡ last_level levels → b ≡ last_level levels → a ≡ b
one_last levels = no_two

-- `preferences_keep` and `flags_fit`
pub one_at_most : (limit : ℕ) (l : List ℕ) {a b : Bool} → a ≡ all_at_most limit l → b ≡ all_at_most limit l → a ≡ b
one_at_most limit l = no_two
