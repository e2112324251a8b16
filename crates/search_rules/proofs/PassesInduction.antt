-- One induction over the passes of a call, for every law of how a call ends: what holds before a pass and is
-- kept by each pass gives what is asked of the ending.
use mathlib.Core.Path.{◌≡◌, refl}
use mathlib.Core.Bool.{Bool, true, false}
use mathlib.Core.List.{List, [], ◌∷◌}
use Prim.Native.Nat.{ℕ, suc, ◌+◌, ◌-◌, ◌≤◌, ◌<◌, min}
use borrow.Author.Tests.{leb-true, leb-false}
use lib.Dec.{leb}
use Rattle.search_rules.specs.Walk.{Out, hit, dry, cut}
use Rattle.search_rules.specs.Passes.{Ending, found, none, out, passes_from}
use Rattle.search_rules.proofs.PassesLaws.{passes-last-hit, passes-last-dry, passes-last-cut, passes-hit, passes-dry, passes-cut-out, passes-cut-on}

module _ (pass_at : ℕ → ℕ → ℕ → ℕ → Out) (budget : ℕ) where
  -- Stands: of the levels above, the limit, the pass, the turns left and the draw, before a pass; Ends: of
  -- the ending
  pub record Kept (Stands : List ℕ → ℕ → ℕ → ℕ → ℕ → Type 0) (Ends : Ending → Type 0) : Type 0 where
    pub last-hit : (limit pass left draw spared : ℕ) (places : List ℕ) (draw' : ℕ) → Stands [] limit pass left draw
        → pass_at limit pass left draw ≡ hit spared places draw' → Ends (found spared pass limit places)
    pub last-dry : (limit pass left draw spared draw' : ℕ) → Stands [] limit pass left draw → pass_at limit pass left draw ≡ dry spared draw' → Ends (none spared pass limit)
    pub last-cut : (limit pass left draw draw' : ℕ) → Stands [] limit pass left draw → pass_at limit pass left draw ≡ cut draw' → Ends (out pass limit)
    pub hits : (next : ℕ) (above : List ℕ) (limit pass left draw spared : ℕ) (places : List ℕ) (draw' : ℕ) → Stands (next ∷ above) limit pass left draw
        → pass_at limit pass (min left budget) draw ≡ hit spared places draw' → Ends (found (spared + (left - budget)) pass limit places)
    pub goes_on : (next : ℕ) (above : List ℕ) (limit pass left draw spared draw' : ℕ) → Stands (next ∷ above) limit pass left draw
        → pass_at limit pass (min left budget) draw ≡ dry spared draw' → Stands above next (suc pass) (spared + (left - budget)) draw'
    pub runs_out : (next : ℕ) (above : List ℕ) (limit pass left draw draw' : ℕ) → Stands (next ∷ above) limit pass left draw
        → pass_at limit pass (min left budget) draw ≡ cut draw' → left ≤ budget → Ends (out pass limit)
    pub is_cut : (next : ℕ) (above : List ℕ) (limit pass left draw draw' : ℕ) → Stands (next ∷ above) limit pass left draw
        → pass_at limit pass (min left budget) draw ≡ cut draw' → budget < left → Stands above next (suc pass) (left - budget) draw'

  -- what is kept by each pass gives what is asked of the ending of the passes
  pub passes_ind : (Stands : List ℕ → ℕ → ℕ → ℕ → ℕ → Type 0) (Ends : Ending → Type 0) → Kept Stands Ends → (above : List ℕ) (limit pass left draw : ℕ)
      → Stands above limit pass left draw → Ends (passes_from pass_at budget above limit pass left draw)
  passes_ind Stands Ends kept [] limit pass left draw s = go (pass_at limit pass left draw) refl
    where
      go : (o : Out) → pass_at limit pass left draw ≡ o → Ends (passes_from pass_at budget [] limit pass left draw)
      go (hit spared places draw') e = rw (passes-last-hit pass_at budget limit pass left draw e) (kept.last-hit limit pass left draw spared places draw' s e)
      go (dry spared draw') e = rw (passes-last-dry pass_at budget limit pass left draw e) (kept.last-dry limit pass left draw spared draw' s e)
      go (cut draw') e = rw (passes-last-cut pass_at budget limit pass left draw e) (kept.last-cut limit pass left draw draw' s e)
  passes_ind Stands Ends kept (next ∷ above) limit pass left draw s =
      go (pass_at limit pass (min left budget) draw) refl (λ left draw. passes_ind Stands Ends kept above next (suc pass) left draw)
    where
      go : (o : Out) → pass_at limit pass (min left budget) draw ≡ o
          → ((left draw : ℕ) → Stands above next (suc pass) left draw → Ends (passes_from pass_at budget above next (suc pass) left draw))
          → Ends (passes_from pass_at budget (next ∷ above) limit pass left draw)
      go (hit spared places draw') e rest =
          rw (passes-hit pass_at budget limit pass left draw next above e) (kept.hits next above limit pass left draw spared places draw' s e)
      go (dry spared draw') e rest =
          rw (passes-dry pass_at budget limit pass left draw next above e) (rest (spared + (left - budget)) draw' (kept.goes_on next above limit pass left draw spared draw' s e))
      go (cut draw') e rest = short (leb left budget) refl
        where
          short : (b : Bool) → leb left budget ≡ b → Ends (passes_from pass_at budget (next ∷ above) limit pass left draw)
          short true t =
              rw (passes-cut-out pass_at budget limit pass left draw next above e (leb-true _ _ t)) (kept.runs_out next above limit pass left draw draw' s e (leb-true _ _ t))
          short false t =
              rw (passes-cut-on pass_at budget limit pass left draw next above e (leb-false _ _ t)) (rest (left - budget) draw' (kept.is_cut next above limit pass left draw draw' s e (leb-false _ _ t)))
