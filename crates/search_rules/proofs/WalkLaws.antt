-- The walk at each kind of state, one equation each, as a loop over the turns left meets them: what a turn
-- does there.
use mathlib.Core.Path.{◌≡◌, refl, ◌∙◌, ap}
use mathlib.Core.Bool.{Bool, true, false}
use mathlib.Core.List.{List, [], ◌∷◌}
use Prim.Native.Nat.{ℕ, suc, ◌-◌, ◌<◌}
use native.Mathlib.Omega.{arith}
use Rattle.search_rules.specs.Walk.{Sight, on, dry, turn, opened, used, walk}
pub use Rattle.search_rules.proofs.WalkSteps.{walk-goal, walk-over, walk-cut, pass-walk}

-- a number that is not 0 is one fewer, and one
suc-less : (n : ℕ) → 0 < n → n ≡ suc (n - 1)
suc-less n h = omega arith

-- ---- what is made at a new depth, and what is there at another

-- a new depth's candidates are made
pub opened-new : (bucket : List ℕ → ℕ → List ℕ) (places : List ℕ) (candidates : List (List ℕ)) (drawn : ℕ) → opened bucket true places candidates drawn ≡ bucket places drawn ∷ candidates
unfolding opened
opened-new bucket places candidates drawn = refl

-- at a depth that is not new the candidates are as they were left
pub opened-old : (bucket : List ℕ → ℕ → List ℕ) (places : List ℕ) (candidates : List (List ℕ)) (drawn : ℕ) → opened bucket false places candidates drawn ≡ candidates
unfolding opened
opened-old bucket places candidates drawn = refl

-- making the candidates of a new depth may use draws
pub used-new : (draws : List ℕ → ℕ → ℕ) (places : List ℕ) (drawn : ℕ) → used draws true places drawn ≡ draws places drawn
unfolding used
used-new draws places drawn = refl

-- at a depth that is not new no draw is used
pub used-old : (draws : List ℕ → ℕ → ℕ) (places : List ℕ) (drawn : ℕ) → used draws false places drawn ≡ drawn
unfolding used
used-old draws places drawn = refl

-- ---- the walk

module _ (sight : List ℕ → Sight) (bucket : List ℕ → ℕ → List ℕ) (draws : List ℕ → ℕ → ℕ) where
  -- ---- with a turn left, as suc

  -- 'the closing turn at depth 0 with no candidate'
  pub turn_close : (left : ℕ) (new : Bool) (candidates shallower : List (List ℕ)) (drawn : ℕ) → sight [] ≡ on
      → opened bucket new [] candidates drawn ≡ [] ∷ shallower
      → walk sight bucket draws (suc left) new [] candidates drawn ≡ dry left (used draws new [] drawn)
  unfolding walk turn
  turn_close left new candidates shallower drawn e o = rw (e, walk, o)

  -- a step back: no candidate is left at this depth, and the last place is given up
  pub turn-back : (left : ℕ) (new : Bool) (last : ℕ) (places : List ℕ) (candidates shallower : List (List ℕ)) (drawn : ℕ) → sight (last ∷ places) ≡ on
      → opened bucket new (last ∷ places) candidates drawn ≡ [] ∷ shallower
      → walk sight bucket draws (suc left) new (last ∷ places) candidates drawn ≡ walk sight bucket draws left false places shallower (used draws new (last ∷ places) drawn)
  unfolding walk turn
  turn-back left new last places candidates shallower drawn e o = rw (e, walk, o)

  -- a step down: the first candidate left at this depth is the next place
  pub turn-down : (left : ℕ) (new : Bool) (place : ℕ) (rest places : List ℕ) (candidates shallower : List (List ℕ)) (drawn : ℕ) → sight places ≡ on
      → opened bucket new places candidates drawn ≡ (place ∷ rest) ∷ shallower
      → walk sight bucket draws (suc left) new places candidates drawn ≡ walk sight bucket draws left true (place ∷ places) (rest ∷ shallower) (used draws new places drawn)
  unfolding walk turn
  turn-down left new place rest places candidates shallower drawn e o = rw (e, walk, o)

  -- making the candidates of a new depth is no turn: the walk goes on from there with the turns it had
  pub turn_open : (left : ℕ) (places : List ℕ) (candidates : List (List ℕ)) (drawn : ℕ) → sight places ≡ on
      → walk sight bucket draws (suc left) true places candidates drawn ≡ walk sight bucket draws (suc left) false places (bucket places drawn ∷ candidates) (draws places drawn)
  unfolding walk opened used
  turn_open left places candidates drawn e = rw (e, walk)

  -- ---- with a turn left, as a loop counts them down

  -- making the candidates of a new depth is no turn
  pub walk_open : (left : ℕ) (places : List ℕ) (candidates : List (List ℕ)) (drawn : ℕ) → sight places ≡ on → 0 < left
      → walk sight bucket draws left true places candidates drawn ≡ walk sight bucket draws left false places (bucket places drawn ∷ candidates) (draws places drawn)
  walk_open left places candidates drawn e h = rw (suc-less left h) (turn_open (left - 1) places candidates drawn e)

  -- 'the closing turn at depth 0 with no candidate': the pass ends without a plan
  pub walk_close : (left : ℕ) (new : Bool) (candidates shallower : List (List ℕ)) (drawn : ℕ) → sight [] ≡ on
      → opened bucket new [] candidates drawn ≡ [] ∷ shallower → 0 < left
      → walk sight bucket draws left new [] candidates drawn ≡ dry (left - 1) (used draws new [] drawn)
  walk_close left new candidates shallower drawn e o h =
      ap (λ turns. walk sight bucket draws turns new [] candidates drawn) (suc-less left h) ∙ turn_close (left - 1) new candidates shallower drawn e o

  -- a step back gives up the last place
  pub walk-back : (left : ℕ) (new : Bool) (last : ℕ) (places : List ℕ) (candidates shallower : List (List ℕ)) (drawn : ℕ) → sight (last ∷ places) ≡ on
      → opened bucket new (last ∷ places) candidates drawn ≡ [] ∷ shallower → 0 < left
      → walk sight bucket draws left new (last ∷ places) candidates drawn ≡ walk sight bucket draws (left - 1) false places shallower (used draws new (last ∷ places) drawn)
  walk-back left new last places candidates shallower drawn e o h =
      ap (λ turns. walk sight bucket draws turns new (last ∷ places) candidates drawn) (suc-less left h) ∙ turn-back (left - 1) new last places candidates shallower drawn e o

  -- a step down takes the first candidate left
  pub walk-down : (left : ℕ) (new : Bool) (place : ℕ) (rest places : List ℕ) (candidates shallower : List (List ℕ)) (drawn : ℕ) → sight places ≡ on
      → opened bucket new places candidates drawn ≡ (place ∷ rest) ∷ shallower → 0 < left
      → walk sight bucket draws left new places candidates drawn ≡ walk sight bucket draws (left - 1) true (place ∷ places) (rest ∷ shallower) (used draws new places drawn)
  walk-down left new place rest places candidates shallower drawn e o h =
      ap (λ turns. walk sight bucket draws turns new places candidates drawn) (suc-less left h) ∙ turn-down (left - 1) new place rest places candidates shallower drawn e o
