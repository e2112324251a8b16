-- Sums of any amounts along the walk.
use Rattle.std.proofs.Common.{◌≡◌, ℕ, ◌+◌, ◌<◌, ◌≤◌, Bool, true, false, cond, ltb, List, [], ◌∷◌, ◌++◌, length, get_or, set, replicate, sym, refl, ◌∙◌, arith, length-set, get_or-set_other, get_or-set_same, ltb-true}
use native.Mathlib.Decide.{ℕ_discrete}
use Rattle.base_lists.specs.Below.{sum_below}
use Rattle.plan_check.specs.Day.{Day}
use Rattle.plan_check.specs.Plan.{sum_up_to, sum_in}
use Rattle.plan_check.specs.steps.Sums.{Sums}
use Rattle.plan_check.proofs.PlanLaws.{omission_is}
use Rattle.list_nodes.specs.steps.Walk.{place_fits, sums_with, goes_to}
use Rattle.list_nodes.proofs.StartLaws.{sum-in, sum-out, sum-omitted}
use Rattle.list_nodes.proofs.WholeLaws.{zeros-at}

-- the sums are 0 at the empty start
pub none-sums : (amounts : List ℕ) → Sums amounts [] (replicate 24 0)
unfolding Sums sum_in sum_up_to sum_below
none-sums amounts slot = zeros-at 24 slot

-- the sums go with a place that is taken
module _ (day : Day) (few : day.counts.slots ≤ 24) (amounts start sums : List ℕ) (held : Sums amounts start sums) (l : length sums ≡ 24) (place : ℕ) where
  pub with_length : length (sums_with day.counts.slots amounts sums (length start) place) ≡ 24
  unfolding sums_with
  with_length = go (ltb place day.counts.slots)
    where
      go : (b : Bool) → length (cond b (set sums place (get_or sums place 0 + get_or amounts (length start) 0)) sums) ≡ 24
      go true = length-set sums place (get_or sums place 0 + get_or amounts (length start) 0) ∙ l
      go false = l

  pub with_sums : (other : List ℕ) → goes_to day start other place ≡ true → Sums amounts (start ++ (place ∷ [])) (sums_with day.counts.slots amounts sums (length start) place)
  unfolding Sums sums_with goes_to place_fits
  with_sums other g slot = go (ltb place day.counts.slots) refl
    where
      go : (b : Bool) → ltb place day.counts.slots ≡ b
          → get_or (cond (ltb place day.counts.slots) (set sums place (get_or sums place 0 + get_or amounts (length start) 0)) sums) slot 0 ≡ sum_in amounts (start ++ (place ∷ [])) slot
      go true t =
          let h : place < day.counts.slots = ltb-true _ _ t in
          rw t
          (elim (ℕ_discrete place slot) [
            | yes e ↦
                rw (sym e, get_or-set_same sums place (get_or sums place 0 + get_or amounts (length start) 0) 0 (omega arith), held place)
                (sym (sum-in start place amounts place (λ z. omega (arith, z)) refl))
            | no n ↦
                get_or-set_other sums place slot (get_or sums place 0 + get_or amounts (length start) 0) 0 (λ z. n (sym z))
                ∙ held slot ∙ sym (sum-out start place amounts slot n)
          ])
      go false t =
          rw t (held slot ∙ sym (sum-omitted start place amounts slot (omission_is _ _ (rw t at g))))
