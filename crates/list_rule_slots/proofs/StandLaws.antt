-- What must and what may stand in a slot, held against what a plan within the domains has there.
use mathlib.Core.Path.{◌≡◌, refl, sym, ◌∙◌}
use mathlib.Core.Bool.{Bool, true, false, cond}
use mathlib.Core.List.{List}
use Prim.Native.Nat.{ℕ, zero, suc, ◌+◌, ◌≤◌, ◌<◌}
use native.Mathlib.Decide.{ℕ_discrete}
use native.Mathlib.Nat.{not-suc-le-zero}
use native.Mathlib.Omega.{arith}
use borrow.Author.Tests.{eqb-true}
use lib.Dec.{eqb}
use lib.ListN.{length, get_or}
use Rattle.base_lists.specs.Below.{sum_below}
use Rattle.plan_check.specs.Plan.{slot_of, stands_in}
use Rattle.base_choice_sets.specs.Sets.{has}
use Rattle.list_domains.specs.steps.Domains.{place_number, Within, only_place}
use Rattle.list_domains.proofs.DomainLaws.{number_le, number-stands, only_has}

-- ---- sums over those that pass a test

-- terms that are at most others: so are the sums
sum_le : (n : ℕ) (f g : ℕ → ℕ) → ((i : ℕ) → i < n → f i ≤ g i) → sum_below n f ≤ sum_below n g
unfolding sum_below
sum_le zero f g h = omega arith
sum_le (suc n) f g h = omega (arith, sum_le n f g (λ i m. h i (omega arith)), h n (omega arith))

-- sums differ by as much as d if one of the terms does
sum-apart : (n : ℕ) (f g : ℕ → ℕ) (k d : ℕ) → ((i : ℕ) → i < n → f i ≤ g i) → k < n → f k + d ≤ g k → sum_below n f + d ≤ sum_below n g
unfolding sum_below
sum-apart zero f g k d h l e = absurd (not-suc-le-zero l)
sum-apart (suc n) f g k d h l e =
    elim (ℕ_discrete k n) [
      | yes q ↦ omega (arith, sum_le n f g (λ i m. h i (omega arith)), rw q at e)
      | no q ↦ omega (arith, sum-apart n f g k d (λ i m. h i (omega arith)) (omega arith) e, h n (omega arith))
    ]

-- what passes one test passes the other: the amounts of those that pass
module _ (n : ℕ) (amount : ℕ → ℕ) (p q : ℕ → Bool) (up : (i : ℕ) → i < n → p i ≡ true → q i ≡ true) where
  each : (i : ℕ) → i < n → cond (p i) (amount i) 0 ≤ cond (q i) (amount i) 0
  each i m = go (p i) refl
    where
      go : (b : Bool) → p i ≡ b → cond b (amount i) 0 ≤ cond (q i) (amount i) 0
      go true t = rw (up i m t) (omega arith)
      go false t = omega arith

  pub sum-all : sum_below n (λ i. cond (p i) (amount i) 0) ≤ sum_below n (λ i. cond (q i) (amount i) 0)
  sum-all = sum_le n (λ i. cond (p i) (amount i) 0) (λ i. cond (q i) (amount i) 0) each

  -- with the one choice apart
  module _ (k : ℕ) (l : k < n) where
    -- a choice that passes the wider test: its amount is added to the narrower sum if it isn't there
    pub sum-in : q k ≡ true
        → sum_below n (λ i. cond (p i) (amount i) 0) + cond (p k) 0 (amount k) ≤ sum_below n (λ i. cond (q i) (amount i) 0)
    sum-in t =
        sum-apart n (λ i. cond (p i) (amount i) 0) (λ i. cond (q i) (amount i) 0) k (cond (p k) 0 (amount k)) each l
        (rw t (go (p k)))
      where
        go : (b : Bool) → cond b (amount k) 0 + cond b 0 (amount k) ≤ amount k
        go true = omega arith
        go false = omega arith

    -- a choice that fails the narrower test: the wider sum has its amount besides, if it has it
    pub sum-out : p k ≡ false
        → sum_below n (λ i. cond (p i) (amount i) 0) + cond (q k) (amount k) 0 ≤ sum_below n (λ i. cond (q i) (amount i) 0)
    sum-out t =
        sum-apart n (λ i. cond (p i) (amount i) 0) (λ i. cond (q i) (amount i) 0) k (cond (q k) (amount k) 0) each l
        (rw t (omega arith))

-- ---- the plan's places

module _ (slots slot : ℕ) (plan domains : List ℕ) (few : slots ≤ 24) (lo : slot < slots) (w : Within slots plan domains) where
  -- a choice that has no other place stands there
  pub only_stands : (i : ℕ) → i < length plan → eqb (get_or domains i 0) (only_place slot) ≡ true → stands_in plan i slot ≡ true
  unfolding Within
  only_stands i l t =
      let e : get_or domains i 0 ≡ only_place slot = eqb-true _ _ t in
      let n : place_number slots (slot_of plan i) < 64 = omega (arith, number_le slots (slot_of plan i)) in
      sym (number-stands slots plan i slot (omega arith) lo) ∙ sym (only_has slot _ n) ∙ (rw e at (w i l))

  -- a choice that stands there has the slot among its places
  pub stands-has : (i : ℕ) → i < length plan → stands_in plan i slot ≡ true → has (get_or domains i 0) slot ≡ true
  unfolding Within
  stands-has i l t =
      let e : place_number slots (slot_of plan i) ≡ slot = eqb-true _ _ (number-stands slots plan i slot (omega arith) lo ∙ t) in
      rw e at (w i l)
