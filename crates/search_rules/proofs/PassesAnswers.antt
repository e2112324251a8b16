-- What the answer of a call's passes says, on any budgets: found is a plan, and none says what a pass without
-- a plan at the last limit says.
use mathlib.Core.Path.{◌≡◌, refl, sym}
use mathlib.Core.Bool.{Bool, true, false}
use mathlib.Core.List.{List, [], ◌∷◌}
use Prim.Native.Nat.{ℕ, suc, ◌+◌, ◌-◌, min}
use lib.Dec.{leb}
use Rattle.search_rules.specs.Walk.{Out, hit, dry, cut}
use Rattle.search_rules.specs.Passes.{Ending, found, none, out, passes_from}

-- the limit of the last pass that a call may make
unfoldable pub last_limit : ℕ → List ℕ → ℕ
last_limit limit [] = limit
last_limit limit (next ∷ above) = last_limit next above

-- what each answer says: found of its limit, pass and places; none; and out of turns
abbrev pub Says : (ℕ → ℕ → List ℕ → Type 0) → Type 0 → Type 0 → Ending → Type 0
Says Plan None Short (found left pass limit places) = Plan limit pass places
Says Plan None Short (none left pass limit) = None
Says Plan None Short (out pass limit) = Short

module _ (pass_at : ℕ → ℕ → ℕ → ℕ → Out) (budget : ℕ)
    (Plan : ℕ → ℕ → List ℕ → Type 0)
    (sound : (limit pass turns draw left : ℕ) (places : List ℕ) (draw' : ℕ) → pass_at limit pass turns draw ≡ hit left places draw' → Plan limit pass places)
    (last : ℕ) (None : Type 0)
    (dry-says : (pass turns draw left draw' : ℕ) → pass_at last pass turns draw ≡ dry left draw' → None) where
  -- on any budgets: a plan or a none is true. Pass by pass: only one at the last limit may answer none, any
  -- other without a plan leaves that to the passes above it
  pub said : (above : List ℕ) (limit pass left draw : ℕ) → last_limit limit above ≡ last → Says Plan None (Unit {0}) (passes_from pass_at budget above limit pass left draw)
  unfolding passes_from last_limit
  said [] limit pass left draw s = go (pass_at limit pass left draw) refl
    where
      go : (o : Out) → pass_at limit pass left draw ≡ o → Says Plan None (Unit {0}) (passes_from pass_at budget [] limit pass left draw)
      go (hit spared places draw') e = rw (e, passes_from) (sound limit pass left draw spared places draw' e)
      go (dry spared draw') e = rw (e, passes_from) (dry-says pass left draw spared draw' (rw (sym s) e))
      go (cut draw') e = rw (e, passes_from) tt
  said (next ∷ above) limit pass left draw s = go (pass_at limit pass (min left budget) draw) refl (λ left draw. said above next (suc pass) left draw s)
    where
      go : (o : Out) → pass_at limit pass (min left budget) draw ≡ o
          → ((left draw : ℕ) → Says Plan None (Unit {0}) (passes_from pass_at budget above next (suc pass) left draw))
          → Says Plan None (Unit {0}) (passes_from pass_at budget (next ∷ above) limit pass left draw)
      go (hit spared places draw') e rest = rw (e, passes_from) (sound limit pass (min left budget) draw spared places draw' e)
      go (dry spared draw') e rest = rw (e, passes_from) (rest (spared + (left - budget)) draw')
      go (cut draw') e rest = short (leb left budget) refl
        where
          short : (b : Bool) → leb left budget ≡ b → Says Plan None (Unit {0}) (passes_from pass_at budget (next ∷ above) limit pass left draw)
          short true t = rw (e, passes_from, t) tt
          short false t = rw (e, passes_from, t) (rest (left - budget) draw')

  -- what an ending that is found says, and what one that is none says, each by itself
  pub found-says : (above : List ℕ) (limit pass left draw left' pass' limit' : ℕ) (places : List ℕ) → last_limit limit above ≡ last
      → passes_from pass_at budget above limit pass left draw ≡ found left' pass' limit' places → Plan limit' pass' places
  found-says above limit pass left draw left' pass' limit' places s e = rw e at (said above limit pass left draw s)

  pub none-says : (above : List ℕ) (limit pass left draw left' pass' limit' : ℕ) → last_limit limit above ≡ last
      → passes_from pass_at budget above limit pass left draw ≡ none left' pass' limit' → None
  none-says above limit pass left draw left' pass' limit' s e = rw e at (said above limit pass left draw s)
