-- A call is passes one after the other, each at its limit, with the turns that are left.
use Rattle.std.specs.Prelude.{true, false, List, [], ◌∷◌, ℕ, suc, ◌+◌, ◌-◌, min, leb}
use Rattle.search_rules.specs.Walk.{Out, hit, dry, cut}

-- how a call ends, with the turns left, the pass (from 0) and its limit: with a plan's places, last first;
-- without one; or out of turns
pub data Ending : Type 0 where
  found : (left pass limit : ℕ) (places : List ℕ) → Ending
  none : (left pass limit : ℕ) → Ending
  out : (pass limit : ℕ) → Ending

-- pass_at limit pass budget draw: a pass at its limit, with its number, its turns and the place of its first
-- draw; budget: the pass budget
module _ (pass_at : ℕ → ℕ → ℕ → ℕ → Out) (budget : ℕ) where
  -- the passes of a call, with the levels above the limit, lowest first. 'A pass without a plan goes to the
  -- next level above; after the last level the answer is none.' 'A pass below the last level also ends when
  -- it needs a turn past the pass budget. A call that needs a turn past the total budget answers out of
  -- turns, before looking at the pass budget.'
  unfoldable pub passes_from : List ℕ → ℕ → ℕ → ℕ → ℕ → Ending
  passes_from [] limit pass left draw = elim (pass_at limit pass left draw) [
    | hit spared places draw' ↦ found spared pass limit places
    | dry spared draw' ↦ none spared pass limit
    | cut draw' ↦ out pass limit
  ]
  passes_from (next ∷ above) limit pass left draw = elim (pass_at limit pass (min left budget) draw) [
    | hit spared places draw' ↦ found (spared + (left - budget)) pass limit places
    | dry spared draw' ↦ passes_from above next (suc pass) (spared + (left - budget)) draw'
    | cut draw' ↦ elim (leb left budget) [
      | true ↦ out pass limit
      | false ↦ passes_from above next (suc pass) (left - budget) draw'
    ]
  ]
