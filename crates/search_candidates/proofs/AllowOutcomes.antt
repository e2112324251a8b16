-- No two outcomes fit what `rows_allow` promises.
use mathlib.Core.Path.{◌≡◌}
use mathlib.Core.Bool.{Bool}
use mathlib.Core.List.{List}
use Prim.Native.Nat.{ℕ}
use Rattle.base_lists.proofs.Outcome.{no_two}
use Rattle.search_candidates.specs.Allow.{rows_allow}

-- no two answers fit what rows_allow promises
pub rows_allow-settled : (rows numbers decisions : List ℕ) (sizes : ℕ → ℕ) (last : Bool) (choice place : ℕ) {a b : Bool}
    → a ≡ rows_allow rows numbers decisions sizes last choice place → b ≡ rows_allow rows numbers decisions sizes last choice place → a ≡ b
rows_allow-settled rows numbers decisions sizes last choice place = no_two
