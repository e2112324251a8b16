-- The walk at each kind of state, whatever a turn does: one equation each.
use mathlib.Core.Path.{◌≡◌, refl}
use mathlib.Core.Bool.{Bool, true}
use mathlib.Core.List.{List, []}
use Prim.Native.Nat.{ℕ, zero, suc}
use Rattle.search_rules.specs.Walk.{Sight, goal, over, on, hit, dry, cut, Turn, moves, closes, turn, opened, used, walk, pass}

-- the turn from a state, the candidates of a new depth made
abbrev pub turn_from : (List ℕ → ℕ → List ℕ) → (List ℕ → ℕ → ℕ) → Bool → List ℕ → List (List ℕ) → ℕ → Turn
turn_from bucket draws new places candidates drawn = turn places (opened bucket new places candidates drawn) (used draws new places drawn)

module _ (sight : List ℕ → Sight) (bucket : List ℕ → ℕ → List ℕ) (draws : List ℕ → ℕ → ℕ) where
  -- a plan stands here: the pass ends, no turn is used
  pub walk-goal : (left : ℕ) (new : Bool) (places : List ℕ) (candidates : List (List ℕ)) (drawn : ℕ) → sight places ≡ goal
      → walk sight bucket draws left new places candidates drawn ≡ hit left places drawn
  unfolding walk
  walk-goal zero new places candidates drawn e = rw (e, walk)
  walk-goal (suc left) new places candidates drawn e = rw (e, walk)

  -- the pass ends here without a plan, no turn is used
  pub walk-over : (left : ℕ) (new : Bool) (places : List ℕ) (candidates : List (List ℕ)) (drawn : ℕ) → sight places ≡ over
      → walk sight bucket draws left new places candidates drawn ≡ dry left drawn
  unfolding walk
  walk-over zero new places candidates drawn e = rw (e, walk)
  walk-over (suc left) new places candidates drawn e = rw (e, walk)

  -- a turn is needed and none is left: nothing is made
  pub walk-cut : (new : Bool) (places : List ℕ) (candidates : List (List ℕ)) (drawn : ℕ) → sight places ≡ on
      → walk sight bucket draws 0 new places candidates drawn ≡ cut drawn
  unfolding walk
  walk-cut new places candidates drawn e = rw (e, walk)

  -- a turn that goes to another state: the walk goes on from there with one turn fewer
  pub walk-moves : (left : ℕ) (new : Bool) (places : List ℕ) (candidates : List (List ℕ)) (drawn : ℕ) (new' : Bool) (places' : List ℕ) (candidates' : List (List ℕ)) (drawn' : ℕ) → sight places ≡ on
      → turn_from bucket draws new places candidates drawn ≡ moves new' places' candidates' drawn'
      → walk sight bucket draws (suc left) new places candidates drawn ≡ walk sight bucket draws left new' places' candidates' drawn'
  unfolding walk
  walk-moves left new places candidates drawn new' places' candidates' drawn' e t = rw (e, walk, t)

  -- the closing turn
  pub walk-closes : (left : ℕ) (new : Bool) (places : List ℕ) (candidates : List (List ℕ)) (drawn drawn' : ℕ) → sight places ≡ on
      → turn_from bucket draws new places candidates drawn ≡ closes drawn'
      → walk sight bucket draws (suc left) new places candidates drawn ≡ dry left drawn'
  unfolding walk
  walk-closes left new places candidates drawn drawn' e t = rw (e, walk, t)

  -- a pass is the walk from no place decided
  pub pass-walk : (budget drawn : ℕ) → pass sight bucket draws budget drawn ≡ walk sight bucket draws budget true [] [] drawn
  unfolding pass
  pass-walk budget drawn = refl
