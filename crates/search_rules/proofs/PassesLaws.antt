-- Passes one after the other, one equation for each way that a pass ends, as a loop over the levels left
-- meets them.
use mathlib.Core.Path.{◌≡◌}
use mathlib.Core.List.{List, [], ◌∷◌}
use Prim.Native.Nat.{ℕ, suc, ◌+◌, ◌-◌, ◌≤◌, ◌<◌, min}
use borrow.Author.Tests.{le-leb, lt-leb}
use Rattle.search_rules.specs.Walk.{Out, hit, dry, cut}
use Rattle.search_rules.specs.Passes.{found, none, out, passes_from}

module _ (pass_at : ℕ → ℕ → ℕ → ℕ → Out) (budget : ℕ) (limit pass left draw : ℕ) where
  -- ---- the pass at the last level: all turns that are left

  pub passes-last-hit : {spared : ℕ} {places : List ℕ} {draw' : ℕ} → pass_at limit pass left draw ≡ hit spared places draw'
      → passes_from pass_at budget [] limit pass left draw ≡ found spared pass limit places
  unfolding passes_from
  passes-last-hit e = rw (e, passes_from)

  pub passes-last-dry : {spared draw' : ℕ} → pass_at limit pass left draw ≡ dry spared draw'
      → passes_from pass_at budget [] limit pass left draw ≡ none spared pass limit
  unfolding passes_from
  passes-last-dry e = rw (e, passes_from)

  pub passes-last-cut : {draw' : ℕ} → pass_at limit pass left draw ≡ cut draw' → passes_from pass_at budget [] limit pass left draw ≡ out pass limit
  unfolding passes_from
  passes-last-cut e = rw (e, passes_from)

  -- ---- a pass below it: its budget or what is left

  module _ (next : ℕ) (above : List ℕ) where
    pub passes-hit : {spared : ℕ} {places : List ℕ} {draw' : ℕ} → pass_at limit pass (min left budget) draw ≡ hit spared places draw'
        → passes_from pass_at budget (next ∷ above) limit pass left draw ≡ found (spared + (left - budget)) pass limit places
    unfolding passes_from
    passes-hit e = rw (e, passes_from)

    pub passes-dry : {spared draw' : ℕ} → pass_at limit pass (min left budget) draw ≡ dry spared draw'
        → passes_from pass_at budget (next ∷ above) limit pass left draw ≡ passes_from pass_at budget above next (suc pass) (spared + (left - budget)) draw'
    unfolding passes_from
    passes-dry e = rw (e, passes_from)

    -- 'A call that needs a turn past the total budget answers out of turns, before looking at the pass
    -- budget.'
    pub passes-cut-out : {draw' : ℕ} → pass_at limit pass (min left budget) draw ≡ cut draw' → left ≤ budget
        → passes_from pass_at budget (next ∷ above) limit pass left draw ≡ out pass limit
    unfolding passes_from
    passes-cut-out e h = rw (e, passes_from, le-leb _ _ h)

    -- 'A pass below the last level also ends when it needs a turn past the pass budget.'
    pub passes-cut-on : {draw' : ℕ} → pass_at limit pass (min left budget) draw ≡ cut draw' → budget < left
        → passes_from pass_at budget (next ∷ above) limit pass left draw ≡ passes_from pass_at budget above next (suc pass) (left - budget) draw'
    unfolding passes_from
    passes-cut-on e h = rw (e, passes_from, lt-leb _ _ h)
