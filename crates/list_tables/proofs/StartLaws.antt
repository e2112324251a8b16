-- A plan's choices in their slots, and the sums of its starts.
use mathlib.Core.Path.{◌≡◌, refl, ap}
use mathlib.Core.Bool.{true, ◌&&◌, not, cond}
use mathlib.Core.List.{List, [], ◌∷◌}
use Prim.Native.Nat.{ℕ, zero, suc, ◌≤◌, ◌<◌}
use native.Mathlib.Omega.{arith}
use borrow.Author.Tests.{eqb-true}
use lib.Dec.{eqb}
use lib.ListN.{length, get_or, take}
use lib.Seq.{length-take-le}
use Rattle.base_lists.specs.Below.{sum_below}
use Rattle.base_lists.proofs.Below.{and_right}
use Rattle.base_lists.proofs.SumBelow.{sum_ext}
use Rattle.plan_check.specs.Plan.{slot_of, omitted, stands_in, sum_up_to, sum_in}

-- a choice that stands in a slot has that slot's byte
pub stands_only : (plan : List ℕ) (choice slot : ℕ) → stands_in plan choice slot ≡ true → slot_of plan choice ≡ slot
unfolding stands_in
stands_only plan choice slot t = eqb-true _ _ (and_right (not (omitted plan choice)) (eqb (slot_of plan choice) slot) t)

-- the first entries of a list are those of its start
take_at : (from : ℕ) (plan : List ℕ) (k d : ℕ) → k < from → get_or (take from plan) k d ≡ get_or plan k d
take_at zero plan k d h = absurd (omega arith)
take_at (suc n) [] k d h = refl
take_at (suc n) (x ∷ l) zero d h = refl
take_at (suc n) (x ∷ l) (suc k) d h = take_at n l k d (omega arith)

-- a start's sums are the plan's over its first choices
pub start-sum : (amounts plan : List ℕ) (from slot : ℕ) → from ≤ length plan
    → sum_in amounts (take from plan) slot ≡ sum_below from λ choice. cond (stands_in plan choice slot) (get_or amounts choice 0) 0
unfolding sum_in sum_up_to stands_in omitted slot_of
start-sum amounts plan from slot h =
    let e : length (take from plan) ≡ from = length-take-le from plan h in
    rw e
    (sum_ext from (λ choice. cond (not (eqb (get_or (take from plan) choice 255) 255) && eqb (get_or (take from plan) choice 255) slot) (get_or amounts choice 0) 0)
    (λ choice. cond (not (eqb (get_or plan choice 255) 255) && eqb (get_or plan choice 255) slot) (get_or amounts choice 0) 0)
    λ k hk. ap (λ (x : ℕ). cond (not (eqb x 255) && eqb x slot) (get_or amounts k 0) 0) (take_at from plan k 255 hk))
