-- One induction over the turns left, for every law of where a walk ends. It holds whatever a turn does: each
-- law says itself what the turn keeps.
use mathlib.Core.Path.{◌≡◌, refl}
use mathlib.Core.Bool.{Bool, true}
use mathlib.Core.List.{List, []}
use Prim.Native.Nat.{ℕ, zero, suc}
use Rattle.search_rules.specs.Walk.{Sight, goal, over, on, Out, hit, dry, cut, Turn, moves, closes, walk, pass}
use Rattle.search_rules.proofs.WalkSteps.{turn_from, walk-goal, walk-over, walk-cut, walk-moves, walk-closes, pass-walk}

-- a fact of a state: turns left, whether a new depth begins, places, candidates, draws used
abbrev pub StateFact : Type 1
StateFact = ℕ → Bool → List ℕ → List (List ℕ) → ℕ → Type 0

-- what holds after a turn: the fact of the state that it goes to, or what is asked of the end
abbrev pub After : StateFact → (Out → Type 0) → ℕ → Turn → Type 0
After Fact End left (moves new places candidates drawn) = Fact left new places candidates drawn
After Fact End left (closes drawn) = End (dry left drawn)

module _ (sight : List ℕ → Sight) (bucket : List ℕ → ℕ → List ℕ) (draws : List ℕ → ℕ → ℕ) where
  -- a fact that each turn keeps, and what it gives at each end
  pub record Kept (Fact : StateFact) (End : Out → Type 0) : Type 0 where
    pub at-goal : (left : ℕ) (new : Bool) (places : List ℕ) (candidates : List (List ℕ)) (drawn : ℕ) → Fact left new places candidates drawn → sight places ≡ goal → End (hit left places drawn)
    pub at-over : (left : ℕ) (new : Bool) (places : List ℕ) (candidates : List (List ℕ)) (drawn : ℕ) → Fact left new places candidates drawn → sight places ≡ over → End (dry left drawn)
    pub at_cut : (new : Bool) (places : List ℕ) (candidates : List (List ℕ)) (drawn : ℕ) → Fact 0 new places candidates drawn → sight places ≡ on → End (cut drawn)
    pub at_turn : (left : ℕ) (new : Bool) (places : List ℕ) (candidates : List (List ℕ)) (drawn : ℕ) → Fact (suc left) new places candidates drawn → sight places ≡ on
        → After Fact End left (turn_from bucket draws new places candidates drawn)

  -- what holds at a state and is kept tells how the walk from there ends
  pub walk_ind : (Fact : StateFact) (End : Out → Type 0) → Kept Fact End → (left : ℕ) (new : Bool) (places : List ℕ) (candidates : List (List ℕ)) (drawn : ℕ)
      → Fact left new places candidates drawn → End (walk sight bucket draws left new places candidates drawn)
  walk_ind Fact End kept zero new places candidates drawn f = go (sight places) refl
    where
      go : (seen : Sight) → sight places ≡ seen → End (walk sight bucket draws zero new places candidates drawn)
      go goal e = rw (walk-goal sight bucket draws zero new places candidates drawn e) (kept.at-goal zero new places candidates drawn f e)
      go over e = rw (walk-over sight bucket draws zero new places candidates drawn e) (kept.at-over zero new places candidates drawn f e)
      go on e = rw (walk-cut sight bucket draws new places candidates drawn e) (kept.at_cut new places candidates drawn f e)
  walk_ind Fact End kept (suc left) new places candidates drawn f = go (sight places) refl (walk_ind Fact End kept left)
    where
      go : (seen : Sight) → sight places ≡ seen
          → ((new : Bool) (places : List ℕ) (candidates : List (List ℕ)) (drawn : ℕ) → Fact left new places candidates drawn → End (walk sight bucket draws left new places candidates drawn))
          → End (walk sight bucket draws (suc left) new places candidates drawn)
      go goal e next = rw (walk-goal sight bucket draws (suc left) new places candidates drawn e) (kept.at-goal (suc left) new places candidates drawn f e)
      go over e next = rw (walk-over sight bucket draws (suc left) new places candidates drawn e) (kept.at-over (suc left) new places candidates drawn f e)
      go on e next = turned (turn_from bucket draws new places candidates drawn) refl (kept.at_turn left new places candidates drawn f e)
        where
          turned : (done : Turn) → turn_from bucket draws new places candidates drawn ≡ done → After Fact End left done
              → End (walk sight bucket draws (suc left) new places candidates drawn)
          turned (moves new' places' candidates' drawn') t h =
              rw (walk-moves sight bucket draws left new places candidates drawn new' places' candidates' drawn' e t) (next new' places' candidates' drawn' h)
          turned (closes drawn') t h = rw (walk-closes sight bucket draws left new places candidates drawn drawn' e t) h

  -- what holds at no place decided and is kept tells how a pass ends
  pub pass_ind : (Fact : StateFact) (End : Out → Type 0) → Kept Fact End → (budget drawn : ℕ) → Fact budget true [] [] drawn → End (pass sight bucket draws budget drawn)
  pass_ind Fact End kept budget drawn f = rw (pass-walk sight bucket draws budget drawn) (walk_ind Fact End kept budget true [] [] drawn f)
