-- A call leaves no more turns than it is given, and makes no more passes than there are levels above its
-- start, and one.
use mathlib.Core.Path.{◌≡◌}
use mathlib.Core.List.{List}
use Prim.Native.Nat.{ℕ, ◌+◌, ◌≤◌}
use native.Mathlib.Omega.{arith}
use lib.ListN.{length}
use Rattle.search_rules.specs.Walk.{Out, hit, dry, turns_left}
use Rattle.search_rules.specs.Passes.{Ending, found, none, out, passes_from}
use Rattle.search_rules.proofs.PassesInduction.{Kept, passes_ind}

-- the turns that a call leaves
abbrev pub ending_left : Ending → ℕ
ending_left (found left pass limit places) = left
ending_left (none left pass limit) = left
ending_left (out pass limit) = 0

-- a call's last pass, from 0
abbrev pub ending_pass : Ending → ℕ
ending_pass (found left pass limit places) = pass
ending_pass (none left pass limit) = pass
ending_pass (out pass limit) = pass

module _ (pass_at : ℕ → ℕ → ℕ → ℕ → Out) (budget : ℕ) where
  module _ (within : (limit pass turns draw : ℕ) → turns_left (pass_at limit pass turns draw) ≤ turns) where
    -- a pass that ends so leaves no more turns than it had
    after-hit : {limit pass turns draw spared : ℕ} {places : List ℕ} {draw' : ℕ} → pass_at limit pass turns draw ≡ hit spared places draw' → spared ≤ turns
    unfolding turns_left
    after-hit {limit} {pass} {turns} {draw} e = rw e at (within limit pass turns draw)

    after-dry : {limit pass turns draw spared draw' : ℕ} → pass_at limit pass turns draw ≡ dry spared draw' → spared ≤ turns
    unfolding turns_left
    after-dry {limit} {pass} {turns} {draw} e = rw e at (within limit pass turns draw)

    turns-kept : (total : ℕ) → Kept pass_at budget (λ above limit pass left draw. left ≤ total) (λ ending. ending_left ending ≤ total)
    turns-kept total =
        record {
          last-hit = λ limit pass left draw spared places draw' s e. omega (arith, s, after-hit e);
          last-dry = λ limit pass left draw spared draw' s e. omega (arith, s, after-dry e);
          last-cut = λ limit pass left draw draw' s e. omega arith;
          hits = λ next above limit pass left draw spared places draw' s e. omega (arith, s, after-hit e);
          goes_on = λ next above limit pass left draw spared draw' s e. omega (arith, s, after-dry e);
          runs_out = λ next above limit pass left draw draw' s e h. omega arith;
          is_cut = λ next above limit pass left draw draw' s e h. omega (arith, s);
        }

    -- a call leaves no more turns than it was given
    pub turns-within : (above : List ℕ) (limit pass left draw : ℕ) → ending_left (passes_from pass_at budget above limit pass left draw) ≤ left
    turns-within above limit pass left draw =
        passes_ind pass_at budget (λ above limit pass now draw. now ≤ left) (λ ending. ending_left ending ≤ left) (turns-kept left) above limit pass left draw (omega arith)

  passes_kept : (most : ℕ) → Kept pass_at budget (λ above limit pass left draw. pass + length above ≤ most) (λ ending. ending_pass ending ≤ most)
  passes_kept most =
      record {
        last-hit = λ limit pass left draw spared places draw' s e. omega (arith, s);
        last-dry = λ limit pass left draw spared draw' s e. omega (arith, s);
        last-cut = λ limit pass left draw draw' s e. omega (arith, s);
        hits = λ next above limit pass left draw spared places draw' s e. omega (arith, s);
        goes_on = λ next above limit pass left draw spared draw' s e. omega (arith, s);
        runs_out = λ next above limit pass left draw draw' s e h. omega (arith, s);
        is_cut = λ next above limit pass left draw draw' s e h. omega (arith, s);
      }

  -- a call makes a pass for each level above at most, after the first one
  pub passes-within : (above : List ℕ) (limit pass left draw : ℕ) → ending_pass (passes_from pass_at budget above limit pass left draw) ≤ pass + length above
  passes-within above limit pass left draw =
      passes_ind pass_at budget (λ higher limit now left draw. now + length higher ≤ pass + length above) (λ ending. ending_pass ending ≤ pass + length above)
      (passes_kept (pass + length above)) above limit pass left draw (omega arith)
