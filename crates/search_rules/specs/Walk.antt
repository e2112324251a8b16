-- The walk of one pass of the search: what stands at a state, the turn from it, and where the pass ends. A
-- state: does a new depth begin here, whose candidates aren't made yet; the places decided, last first; the
-- candidates left at each depth, deepest first, those of a new depth not among them; and a number that says
-- which draw comes next.
use Rattle.std.specs.Prelude.{Bool, true, false, List, [], ◌∷◌, ℕ, zero, suc}

-- what stands at the places decided: a plan that passes the check at depth C; the end of the pass without a
-- plan; or neither
pub data Sight : Type 0 where
  goal : Sight
  over : Sight
  on : Sight

-- how a pass ends: with a plan, its places last first; without a plan; or where 'it needs a turn past the
-- pass budget'. Each with the turns left (0 at a cut) and which draw comes next
pub data Out : Type 0 where
  hit : (left : ℕ) (places : List ℕ) (drawn : ℕ) → Out
  dry : (left : ℕ) (drawn : ℕ) → Out
  cut : (drawn : ℕ) → Out

-- what a turn does: it goes to another state, or it is the closing turn
pub data Turn : Type 0 where
  moves : (new : Bool) (places : List ℕ) (candidates : List (List ℕ)) (drawn : ℕ) → Turn
  closes : (drawn : ℕ) → Turn

-- 'A turn is a step down, a step back, or the closing turn at depth 0 with no candidate.' A pass has
-- candidates, perhaps none, for each depth, so it never meets the first line
unfoldable pub turn : List ℕ → List (List ℕ) → ℕ → Turn
turn places [] drawn = closes drawn
turn [] ([] ∷ candidates) drawn = closes drawn
turn (last ∷ places) ([] ∷ candidates) drawn = moves false places candidates drawn
turn places ((place ∷ rest) ∷ candidates) drawn = moves true (place ∷ places) (rest ∷ candidates) drawn

-- the candidates left at each depth, those of a new depth made
unfoldable pub opened : (List ℕ → ℕ → List ℕ) → Bool → List ℕ → List (List ℕ) → ℕ → List (List ℕ)
opened bucket true places candidates drawn = bucket places drawn ∷ candidates
opened bucket false places candidates drawn = candidates

-- which draw comes next once the candidates of a new depth are made
unfoldable pub used : (List ℕ → ℕ → ℕ) → Bool → List ℕ → ℕ → ℕ
used draws true places drawn = draws places drawn
used draws false places drawn = drawn

-- sight: what stands at the places decided; bucket: the candidates of a new depth; draws: which draw comes
-- next after they are made
module _ (sight : List ℕ → Sight) (bucket : List ℕ → ℕ → List ℕ) (draws : List ℕ → ℕ → ℕ) where
  -- the walk from a state on, with so many turns left; the candidates of a new depth are made only where a
  -- turn is left
  unfoldable pub walk : ℕ → Bool → List ℕ → List (List ℕ) → ℕ → Out
  walk zero new places candidates drawn = elim (sight places) [
    | goal ↦ hit zero places drawn
    | over ↦ dry zero drawn
    | on ↦ cut drawn
  ]
  walk (suc left) new places candidates drawn = elim (sight places) [
    | goal ↦ hit (suc left) places drawn
    | over ↦ dry (suc left) drawn
    | on ↦ elim (turn places (opened bucket new places candidates drawn) (used draws new places drawn)) [
      | moves new' places' candidates' drawn' ↦ walk left new' places' candidates' drawn'
      | closes drawn' ↦ dry left drawn'
    ]
  ]

  -- a pass: from no place decided, with its budget of turns and the draws that the passes before used
  unfoldable pub pass : ℕ → ℕ → Out
  pass budget drawn = walk budget true [] [] drawn

-- the turns that a pass leaves of its budget
unfoldable pub turns_left : Out → ℕ
turns_left (hit left places drawn) = left
turns_left (dry left drawn) = left
turns_left (cut drawn) = 0

-- which draw comes next when a pass has ended
unfoldable pub draws_used : Out → ℕ
draws_used (hit left places drawn) = drawn
draws_used (dry left drawn) = drawn
draws_used (cut drawn) = drawn
