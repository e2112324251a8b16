-- How many levels aren't above a limit.
use mathlib.Core.Path.{◌≡◌, sym, ◌∙◌}
use mathlib.Core.List.{List}
use Prim.Native.Nat.{ℕ, ◌+◌, ◌≤◌, ◌<◌}
use native.Mathlib.Omega.{arith}
use borrow.Author.Tests.{le-leb, lt-leb}
use lib.Dec.{leb}
use lib.ListN.{length, get_or, drop, drop_of_length-le}
use Rattle.base_lists.specs.First.{first_failing}
use Rattle.base_lists.proofs.First.{first_passes, first-fails}

module _ (levels : List ℕ) (limit : ℕ) where
  -- the levels from place i on decide
  abbrev pub LevelsTo : ℕ → Type 0
  LevelsTo i = (i ≤ length levels) × (i + first_failing (λ level. leb level limit) (drop i levels) ≡ first_failing (λ level. leb level limit) levels)

  pub levels-start : LevelsTo 0
  levels-start = (omega arith, omega arith)

  pub levels-here : (i : ℕ) → i < length levels → limit < get_or levels i 0 → LevelsTo i → i ≡ first_failing (λ level. leb level limit) levels
  levels-here i h a f =
      let z : first_failing (λ level. leb level limit) (drop i levels) ≡ 0 = first-fails (λ level. leb level limit) levels i 0 h (lt-leb _ _ a) in
      omega (arith, f.1)

  pub levels-on : (i : ℕ) → i < length levels → get_or levels i 0 ≤ limit → LevelsTo i → LevelsTo (i + 1)
  levels-on i h a f = (omega arith, sym (first_passes (λ level. leb level limit) levels i 0 h (le-leb _ _ a)) ∙ f.1)

  pub levels-none : (i : ℕ) → length levels ≤ i → LevelsTo i → length levels ≡ first_failing (λ level. leb level limit) levels
  unfolding first_failing
  levels-none i h f =
      let z : first_failing (λ level. leb level limit) (drop i levels) ≡ 0 = rw (drop_of_length-le levels {i = i} h) in
      omega (arith, f.1)
