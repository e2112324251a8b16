-- The decisions of the first choices, and the plan written of them.
use mathlib.Core.Path.{◌≡◌, sym, ap}
use mathlib.Core.List.{List}
use Prim.Native.Nat.{ℕ, ◌-◌, ◌≤◌, ◌<◌}
use native.Mathlib.Omega.{arith}
use borrow.Author.Tests.{le-leb, lt-leb}
use lib.ListN.{length, take}
use lib.Seq.{take_all}
use Rattle.search_turn.specs.steps.Seen.{plan_left}

-- ---- the first decisions

module _ (decisions : List ℕ) (choices : ℕ) where
  pub front-short : length decisions < choices → decisions ≡ take choices decisions
  front-short h = sym (take_all choices decisions (omega arith))

  pub front_cut : take (choices - 0) decisions ≡ take choices decisions
  front_cut =
      let z : choices - 0 ≡ choices = omega arith in
      ap (λ (n : ℕ). take n decisions) z

-- ---- the plan written

-- where there are too few decisions the plan stays as it was
pub left_alone : (decisions plan : List ℕ) → length decisions < length plan → plan ≡ plan_left decisions plan
unfolding plan_left
left_alone decisions plan h = rw (lt-leb _ _ h)

-- where there are enough the plan is as many of them as it has entries
pub plan_written : (decisions plan : List ℕ) → length plan ≤ length decisions → (written : List ℕ) → written ≡ take (length plan) decisions → written ≡ plan_left decisions plan
unfolding plan_left
plan_written decisions plan h written e = rw (le-leb _ _ h) e
