-- A plan's rows asked alone: the pass that counts each slot's choices, and the ways through keeps_every_row.
use mathlib.Core.Path.{◌≡◌, refl, sym, ◌∙◌}
use mathlib.Core.Bool.{true, false, false≢true}
use mathlib.Core.List.{List}
use Prim.Native.Nat.{ℕ, ◌+◌, ◌≤◌, ◌<◌}
use native.Mathlib.Omega.{arith}
use borrow.Author.Tests.{lt-ltb, le-ltb, le-leb, lt-leb}
use lib.ListN.{length, get_or, set, replicate, length-set}
use Rattle.base_lists.specs.All.{all_of}
use Rattle.base_lists.proofs.Sums.{count-sum}
use Rattle.plan_check.specs.Plan.{stands_in, count_in, sum_up_to}
use Rattle.plan_check.specs.Check.{cell_fits}
use Rattle.plan_check.specs.Rows.{keeps_rows}
use Rattle.plan_check.specs.steps.Kept.{keeps_every}
use Rattle.plan_check.specs.steps.Sizing.{Counted}
use Rattle.plan_check.proofs.PlanLaws.{slot-at}
use Rattle.plan_check.proofs.SumLaws.{Summing, summing_none, summing_skip, summing_put}
use Rattle.plan_check.proofs.CheckLaws.{RestDecides, rest-start, rest-next, rest-fails, rest-none, cell_omitted, cell_slot}

-- the pass over the plan, after the first n choices: they fit, and each slot's are counted
pub record Sizing (plan : List ℕ) (n : ℕ) (sizes : List ℕ) : Type 0 where
  pub within : n ≤ length plan
  pub fits : RestDecides (cell_fits 24) plan n
  pub entries : length sizes ≡ 24
  pub counted : Summing n (λ choice. 1) plan sizes

module _ (plan : List ℕ) where
  pub sizing_start : (sizes : List ℕ) → sizes ≡ replicate 24 0 → Sizing plan 0 sizes
  sizing_start sizes e =
      record {
        within = omega arith;
        fits = rest-start (cell_fits 24) plan;
        entries = rw e;
        counted = rw e (summing_none (λ choice. 1) plan 24);
      }

  module _ (n : ℕ) (sizes : List ℕ) (k : Sizing plan n sizes) (h : n < length plan) where
    pub sizing_skip : get_or plan n 0 ≡ 255 → Sizing plan (n + 1) sizes
    sizing_skip e =
        record {
          within = omega arith;
          fits = rest-next (cell_fits 24) plan n h k.fits (cell_omitted 24 _ e);
          entries = k.entries;
          counted = summing_skip (λ choice. 1) plan n sizes k.counted (sym (slot-at plan n h) ∙ e);
        }

    pub sizing_put : (at : ℕ) (sizes' : List ℕ) → at ≡ get_or plan n 0 → at < 24 → sizes' ≡ set sizes at (get_or sizes at 0 + 1) → Sizing plan (n + 1) sizes'
    sizing_put at sizes' e lo q =
        let b : get_or plan n 0 < 24 = omega (arith, e, lo) in
        record {
          within = omega arith;
          fits = rest-next (cell_fits 24) plan n h k.fits (cell_slot 24 (get_or plan n 0) (λ z. absurd (omega (arith, z, b))) ∙ lt-ltb _ _ b);
          entries = rw q (simp length-set k.entries);
          counted = rw q (summing_put (λ choice. 1) plan n sizes at 1 k.counted k.entries (sym (e ∙ slot-at plan n h)) lo refl);
        }

    -- a cell that is neither a slot nor 255 ends the pass
    pub sizing_refused : 24 ≤ get_or plan n 0 → (get_or plan n 0 ≡ 255 → ⊥) → Counted plan false sizes
    sizing_refused o m =
        record {
          answer = sym (rest-fails (cell_fits 24) plan n h k.fits (cell_slot 24 _ m ∙ le-ltb _ _ o));
          counted = λ z. absurd (false≢true z);
        }

  pub sizing_done : (n : ℕ) (sizes : List ℕ) → Sizing plan n sizes → length plan ≤ n → Counted plan true sizes
  unfolding count_in sum_up_to Summing
  sizing_done n sizes k h =
      let e : n ≡ length plan = omega (arith, k.within, h) in
      record {
        answer = sym (rest-none (cell_fits 24) plan n h k.fits);
        counted =
            λ z. record {
              entries = k.entries;
              counts = λ slot. (rw e at k.counted) slot ∙ sym (count-sum (length plan) λ choice. stands_in plan choice slot);
            };
      }

-- keeps_every_row: too long a plan, a cell that doesn't fit, and else what the rows say
module _ (plan rows : List ℕ) where
  pub every-long : 64 < length plan → false ≡ keeps_every plan rows
  unfolding keeps_every
  every-long h = rw (lt-leb _ _ h)

  pub every_bad : length plan ≤ 64 → all_of (cell_fits 24) plan ≡ false → false ≡ keeps_every plan rows
  unfolding keeps_every
  every_bad h f = rw (le-leb _ _ h, f)

  pub every-rows : length plan ≤ 64 → all_of (cell_fits 24) plan ≡ true → keeps_rows plan rows ≡ keeps_every plan rows
  unfolding keeps_every
  every-rows h f = rw (le-leb _ _ h, f)
