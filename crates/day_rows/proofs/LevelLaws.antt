-- The last level of no levels, and what the test of levels says.
use mathlib.Core.Path.{◌≡◌, refl}
use mathlib.Core.List.{List, [], ◌∷◌}
use mathlib.Core.Bool.{true}
use Prim.Native.Nat.{ℕ, ◌+◌, ◌-◌}
use native.Mathlib.Numerals.{add-one}
use native.Mathlib.Omega.{arith}
use borrow.Author.Tests.{ltb-true}
use lib.Dec.{ltb}
use lib.ListN.{length, get_or}
use Rattle.base_lists.specs.Sorted.{Rises}
use Rattle.base_lists.proofs.Below.{all-each}
use Rattle.base_lists.proofs.Sorted.{next-rises}
use Rattle.day_rows.specs.Levels.{levels_rise, last_level}

pub no_last : (levels : List ℕ) → length levels ≡ 0 → 0 ≡ last_level levels
unfolding last_level
no_last [] h = refl
no_last (level ∷ levels) h = absurd (omega arith)

-- levels that pass the test rise strictly
pub levels-rising : (levels : List ℕ) → levels_rise levels ≡ true → Rises levels
unfolding levels_rise
levels-rising levels h =
    next-rises levels
    (λ i k. rw (add-one i) at (ltb-true (get_or levels i 0) (get_or levels (i + 1) 0) (all-each (length levels - 1) (λ i. ltb (get_or levels i 0) (get_or levels (i + 1) 0)) h i (omega arith))))
