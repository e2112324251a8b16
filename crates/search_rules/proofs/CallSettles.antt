-- A call settles whether there is a plan: what its answer says is true, and turns run out only under so many
-- for each pass.
use mathlib.Core.Path.{◌≡◌, refl}
use mathlib.Core.Bool.{Bool, true, false}
use mathlib.Core.List.{List, ◌∷◌}
use Prim.Native.Nat.{ℕ, suc, ◌+◌, ◌-◌, ◌*◌, ◌≤◌, ◌<◌, min}
use native.Mathlib.Nat.{suc-mul}
use native.Mathlib.Omega.{arith}
use borrow.Author.Tests.{leb-true, leb-false}
use lib.Dec.{leb}
use lib.ListN.{length}
use Rattle.search_rules.specs.Walk.{Out, hit, dry, cut}
use Rattle.search_rules.specs.Passes.{Ending, found, none, out, passes_from}
unfoldable pub use Rattle.search_rules.proofs.PassesAnswers.{last_limit}
pub use Rattle.search_rules.proofs.PassesAnswers.{Says, said, found-says, none-says}
use Rattle.search_rules.proofs.PassesInduction.{Kept, passes_ind}

-- a pass that had enough turns, p of them, wasn't cut and spent no more
abbrev pub Enough : ℕ → ℕ → Out → Type 0
Enough p turns (hit left places drawn) = turns ≤ left + p
Enough p turns (dry left drawn) = turns ≤ left + p
Enough p turns (cut drawn) = ⊥

-- a call that settles, and spends at most so many of its turns
abbrev pub Settles : ℕ → ℕ → Ending → Type 0
Settles total most (found left pass limit places) = total ≤ left + most
Settles total most (none left pass limit) = total ≤ left + most
Settles total most (out pass limit) = ⊥

module _ (pass_at : ℕ → ℕ → ℕ → ℕ → Out) (budget p : ℕ) (enough : (limit pass turns draw : ℕ) → p ≤ turns → Enough p turns (pass_at limit pass turns draw)) where
  -- a pass with p turns or more that finds a plan, or ends without one, spends at most p of them
  after-hit : {limit pass turns draw spared : ℕ} {places : List ℕ} {draw' : ℕ} → p ≤ turns → pass_at limit pass turns draw ≡ hit spared places draw' → turns ≤ spared + p
  after-hit {limit} {pass} {turns} {draw} h e = rw e at (enough limit pass turns draw h)

  after-dry : {limit pass turns draw spared draw' : ℕ} → p ≤ turns → pass_at limit pass turns draw ≡ dry spared draw' → turns ≤ spared + p
  after-dry {limit} {pass} {turns} {draw} h e = rw e at (enough limit pass turns draw h)

  -- a pass that was cut had fewer than p turns
  after-cut : {limit pass turns draw draw' : ℕ} → pass_at limit pass turns draw ≡ cut draw' → turns < p
  after-cut {limit} {pass} {turns} {draw} e = go (leb p turns) refl
    where
      go : (b : Bool) → leb p turns ≡ b → turns < p
      go true t = absurd (rw e at (enough limit pass turns draw (leb-true _ _ t)))
      go false t = leb-false _ _ t

  -- whether it had p turns or not, a pass below the last level spends at most p of those left
  spent-hit : {limit pass left draw spared : ℕ} {places : List ℕ} {draw' : ℕ} → pass_at limit pass (min left budget) draw ≡ hit spared places draw' → left ≤ spared + (left - budget) + p
  spent-hit {limit} {pass} {left} {draw} {spared} e = go (leb p (min left budget)) refl
    where
      go : (b : Bool) → leb p (min left budget) ≡ b → left ≤ spared + (left - budget) + p
      go true t = let f : min left budget ≤ spared + p = after-hit (leb-true _ _ t) e in omega arith
      go false t = let f : min left budget < p = leb-false _ _ t in omega arith

  spent-dry : {limit pass left draw spared draw' : ℕ} → pass_at limit pass (min left budget) draw ≡ dry spared draw' → left ≤ spared + (left - budget) + p
  spent-dry {limit} {pass} {left} {draw} {spared} e = go (leb p (min left budget)) refl
    where
      go : (b : Bool) → leb p (min left budget) ≡ b → left ≤ spared + (left - budget) + p
      go true t = let f : min left budget ≤ spared + p = after-dry (leb-true _ _ t) e in omega arith
      go false t = let f : min left budget < p = leb-false _ _ t in omega arith

  module _ (total most : ℕ) (h : most ≤ total) where
    -- p turns for each pass left, beside those that may be spent
    abbrev Spares : List ℕ → ℕ → Type 0
    Spares above left = total + suc (length above) * p ≤ left + most

    spares_next : (next : ℕ) (above : List ℕ) (left left' : ℕ) → Spares (next ∷ above) left → left ≤ left' + p → Spares above left'
    spares_next next above left left' s e = omega (arith, s, e, suc-mul (suc (length above)) p)

    settled-kept : Kept pass_at budget (λ above limit pass left draw. Spares above left) (Settles total most)
    settled-kept =
        record {
          last-hit = λ limit pass left draw spared places draw' s e. let f : left ≤ spared + p = after-hit (omega (arith, s, suc-mul 0 p)) e in omega (arith, s, suc-mul 0 p);
          last-dry = λ limit pass left draw spared draw' s e. let f : left ≤ spared + p = after-dry (omega (arith, s, suc-mul 0 p)) e in omega (arith, s, suc-mul 0 p);
          last-cut = λ limit pass left draw draw' s e. absurd (omega (arith, s, suc-mul 0 p, after-cut e));
          hits = λ next above limit pass left draw spared places draw' s e. omega (arith, spares_next next above left (spared + (left - budget)) s (spent-hit e));
          goes_on = λ next above limit pass left draw spared draw' s e. spares_next next above left (spared + (left - budget)) s (spent-dry e);
          runs_out = λ next above limit pass left draw draw' s e k. absurd (omega (arith, spares_next next above left (left - p) s (omega arith), after-cut e, suc-mul (length above) p));
          is_cut = λ next above limit pass left draw draw' s e k. spares_next next above left (left - budget) s (omega (arith, after-cut e));
        }

  -- with p turns for each pass that it may make, a call settles, and spends no more
  pub call_settles : (above : List ℕ) (limit pass left draw : ℕ) → suc (length above) * p ≤ left → Settles left (suc (length above) * p) (passes_from pass_at budget above limit pass left draw)
  call_settles above limit pass left draw h =
      passes_ind pass_at budget (λ higher limit pass now draw. Spares left (suc (length above) * p) h higher now) (Settles left (suc (length above) * p)) (settled-kept left (suc (length above) * p) h)
      above limit pass left draw (omega arith)

  -- turns run out only under p for each pass that the call may make
  pub out-short : (above : List ℕ) (limit pass left draw pass' limit' : ℕ) → passes_from pass_at budget above limit pass left draw ≡ out pass' limit' → left < suc (length above) * p
  out-short above limit pass left draw pass' limit' e = go (leb (suc (length above) * p) left) refl
    where
      go : (b : Bool) → leb (suc (length above) * p) left ≡ b → left < suc (length above) * p
      go true t = absurd (rw e at (call_settles above limit pass left draw (leb-true _ _ t)))
      go false t = leb-false _ _ t
