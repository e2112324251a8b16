-- Whether a pass ends by its closing turn, and not where the sight says that it is over.
use Rattle.std.specs.Prelude.{Bool, true, false, List, [], ℕ, zero, suc}
use Rattle.search_rules.specs.Walk.{Sight, goal, over, on, moves, closes, turn, opened, used}

module _ (sight : List ℕ → Sight) (bucket : List ℕ → ℕ → List ℕ) (draws : List ℕ → ℕ → ℕ) where
  -- the walk from a state on ends 'at depth 0 with no candidate'
  unfoldable pub walk_closes : ℕ → Bool → List ℕ → List (List ℕ) → ℕ → Bool
  walk_closes zero new places candidates drawn = false
  walk_closes (suc left) new places candidates drawn = elim (sight places) [
    | goal ↦ false
    | over ↦ false
    | on ↦ elim (turn places (opened bucket new places candidates drawn) (used draws new places drawn)) [
      | moves new' places' candidates' drawn' ↦ walk_closes left new' places' candidates' drawn'
      | closes drawn' ↦ true
    ]
  ]

  -- a pass ends 'at depth 0 with no candidate'
  unfoldable pub pass_closes : ℕ → ℕ → Bool
  pass_closes budget drawn = walk_closes budget true [] [] drawn
