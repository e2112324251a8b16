-- Sums along a pass: what a slot has so far, this choice's part and what the choices left add make the plan's
-- sum of the slot.
use mathlib.Core.Path.{◌≡◌, refl, sym, ◌∙◌, ap}
use mathlib.Core.Bool.{Bool, true, false, cond}
use mathlib.Core.List.Memᴰ
use mathlib.Core.List.{List, [], ◌∷◌}
use Prim.Native.Nat.{ℕ, zero, suc, ◌+◌, ◌-◌, ◌≤◌, ◌<◌}
use native.Mathlib.Decide.{ℕ_discrete}
use native.Mathlib.Nat.{not-suc-le-zero}
use native.Mathlib.Omega.{arith}
use borrow.Author.Tests.{eq-eqb, ne_eqb}
use lib.ListN.{length, get_or, set, take, drop, take-append-drop, drop_of_length-le}
use lib.Seq.{drop-cons, get_or-set_same, get_or-set_other}
use Rattle.base_lists.specs.Below.{sum_below}
use Rattle.base_lists.specs.Keep.{sum_over}
use Rattle.base_lists.proofs.Keep.{sum_over_le}
use Rattle.base_lists.proofs.Lists.{get_d_any}
use Rattle.base_lists.proofs.Sums.{count-sum}
use Rattle.base_lists.proofs.SumBelow.{sum_ext, sum_zeros}
use Rattle.plan_check.specs.Plan.{slot_of, omitted, stands_in, count_in, sum_up_to, sum_in}
use Rattle.plan_check.proofs.PlanLaws.{stands_by, stands-omitted}
use Rattle.base_pools.proofs.InsertLaws.{sum_over-append}
use Rattle.search_candidates.specs.Allow.{undecided, decision_of}
use Rattle.search_rules.specs.Decided.{decided}
use Rattle.search_rules.proofs.Along.{Arranged, GoesOn, decided-length, take_next, at-below, decided-out, undecided-at}

-- a sum in which one entry that was 0 is changed
pub sum-put : (n : ℕ) (f g : ℕ → ℕ) (at : ℕ) → at < n → f at ≡ 0 → ((k : ℕ) → k < n → (k ≡ at → ⊥) → g k ≡ f k) → sum_below n g ≡ sum_below n f + g at
unfolding sum_below
sum-put zero f g at h z same = absurd (not-suc-le-zero h)
sum-put (suc n) f g at h z same =
    elim (ℕ_discrete at n) [
      | yes e ↦
          let before : sum_below n g ≡ sum_below n f = sum_ext n g f (λ k hk. same k (omega arith) (λ q. absurd (omega (arith, q, e)))) in
          let last : f n ≡ 0 = ap f (sym e) ∙ z in
          let here : g n ≡ g at = ap g (sym e) in
          omega arith
      | no q ↦
          let rest = sum-put n f g at (omega (arith, q)) z (λ k hk m. same k (omega arith) m) in
          let last : g n ≡ f n = same n (omega arith) (λ e. q (sym e)) in
          omega arith
    ]

-- what a choice adds to a slot's sum
abbrev pub adds_to : (ℕ → ℕ) → List ℕ → ℕ → ℕ → ℕ
adds_to amount plan slot choice = cond (stands_in plan choice slot) (amount choice) 0

-- the place alone tells whether a choice stands in a slot
pub stands_same : (former latter : List ℕ) (i j slot : ℕ) → slot_of former i ≡ slot_of latter j → stands_in former i slot ≡ stands_in latter j slot
unfolding stands_in omitted
stands_same former latter i j slot e = rw e

-- a choice adds its amount to its own slot and nothing to another
pub adds_own : (amount : ℕ → ℕ) (plan : List ℕ) (slot choice : ℕ) → slot_of plan choice ≡ slot → slot < 255 → adds_to amount plan slot choice ≡ amount choice
adds_own amount plan slot choice e h = rw (stands_by plan choice slot (λ q. absurd (omega arith)), eq-eqb (slot_of plan choice) slot e)

pub adds_none : (amount : ℕ → ℕ) (plan : List ℕ) (slot choice : ℕ) → (slot_of plan choice ≡ slot → ⊥) → adds_to amount plan slot choice ≡ 0
adds_none amount plan slot choice n =
    elim (ℕ_discrete (slot_of plan choice) 255) [
      | yes o ↦ rw (stands-omitted plan choice slot o)
      | no o ↦ rw (stands_by plan choice slot o, ne_eqb (slot_of plan choice) slot n)
    ]

pub adds_most : (amount : ℕ → ℕ) (plan : List ℕ) (slot choice : ℕ) → adds_to amount plan slot choice ≤ amount choice
adds_most amount plan slot choice = go (stands_in plan choice slot)
  where
    go : (b : Bool) → cond b (amount choice) 0 ≤ amount choice
    go true = omega arith
    go false = omega arith

-- sums and counts as sums over the first choices
pub sum-in : (amounts plan : List ℕ) (slot n : ℕ) → length plan ≡ n → sum_in amounts plan slot ≡ sum_up_to n (λ choice. get_or amounts choice 0) plan slot
unfolding sum_in
sum-in amounts plan slot n e = rw e

pub count-in : (plan : List ℕ) (slot n : ℕ) → length plan ≡ n → count_in plan slot ≡ sum_up_to n (λ choice. 1) plan slot
unfolding count_in sum_up_to
count-in plan slot n e = rw e (count-sum n (λ choice. stands_in plan choice slot))

module _ (choices : ℕ) (order : List ℕ) (arranged : Arranged choices order) (few : choices ≤ 64) (plan : List ℕ) (amount : ℕ → ℕ) (slot : ℕ) (in_range : slot < 24) where
  -- an undecided choice adds nothing
  adds_undecided : (places : List ℕ) (choice : ℕ) → choice < 64 → decision_of (decided order places) choice ≡ undecided → adds_to amount (decided order places) slot choice ≡ 0
  unfolding decision_of slot_of
  adds_undecided places choice h e =
      let s : slot_of (decided order places) choice ≡ 254 =
      get_d_any (decided order places) choice 255 undecided (rw (decided-length order places) h) ∙ e in
      adds_none amount (decided order places) slot choice (λ q. absurd (omega arith))

  -- what a slot has with one place more
  load_next : (place : ℕ) (places : List ℕ) → length places < choices → slot_of plan (get_or order (length places) 0) ≡ place
      → sum_up_to 64 amount (decided order (place ∷ places)) slot ≡ sum_up_to 64 amount (decided order places) slot + adds_to amount plan slot (get_or order (length places) 0)
  unfolding sum_up_to slot_of decided
  load_next place places h e =
      let at = get_or order (length places) 0 in
      let before = decided order places in
      let here : slot_of (set before at place) at ≡ slot_of plan at = get_or-set_same before at place 255 (at-below choices order arranged few (length places) places h) ∙ sym e in
      sum-put 64 (adds_to amount before slot) (adds_to amount (set before at place) slot) at (omega (arith, arranged.below (length places) h, few))
      (adds_undecided places at (omega (arith, arranged.below (length places) h, few)) (undecided-at choices order arranged few places h))
      (λ k hk n. ap (λ (b : Bool). cond b (amount k) 0) (stands_same (set before at place) before k k slot (get_or-set_other before at k place 255 n)))
      ∙ ap (λ (b : Bool). sum_below 64 (adds_to amount before slot) + cond b (amount at) 0) (stands_same (set before at place) plan at at slot here)

  -- what a slot has so far is what the first choices add to it in the plan
  pub load_is : (places : List ℕ) → GoesOn choices order places plan
      → sum_up_to 64 amount (decided order places) slot ≡ sum_over (adds_to amount plan slot) (take (length places) order)
  unfolding sum_up_to sum_over
  load_is [] g =
      sum_ext 64 (adds_to amount (decided order []) slot) (λ k. 0)
      (λ k hk. adds_undecided [] k hk (decided-out choices order arranged few [] (omega arith) k (λ m. absurd (Memᴰ.not-nil m))))
      ∙ sum_zeros 64
  load_is (place ∷ places) g =
      let at = get_or order (length places) 0 in
      let next : sum_over (adds_to amount plan slot) (take (suc (length places)) order) ≡ sum_over (adds_to amount plan slot) (take (length places) order) + sum_over (adds_to amount plan slot) (at ∷ []) =
      ap (sum_over (adds_to amount plan slot)) (take_next choices order arranged few (length places) g.0)
      ∙ sum_over-append (adds_to amount plan slot) (take (length places) order) (at ∷ []) in
      let last : sum_over (adds_to amount plan slot) (at ∷ []) ≡ adds_to amount plan slot at + 0 = refl in
      omega (arith, next, last, load_next place places g.0 g.1, load_is places g.2)

  -- a new depth's choice and what is left
  drop_here : (f : ℕ → ℕ) (depth : ℕ) → depth < choices → sum_over f (drop depth order) ≡ f (get_or order depth 0) + sum_over f (drop (suc depth) order)
  unfolding sum_over
  drop_here f depth h = ap (sum_over f) (drop-cons order depth 0 (omega (arith, arranged.long)))

  -- the plan's sum: what the slot has so far, this choice's part, and what the choices left add
  pub whole_is : (places : List ℕ) → GoesOn choices order places plan → length places < choices
      → sum_up_to choices amount plan slot
      ≡ sum_up_to 64 amount (decided order places) slot + adds_to amount plan slot (get_or order (length places) 0) + sum_over (adds_to amount plan slot) (drop (suc (length places)) order)
  unfolding sum_up_to
  whole_is places g h =
      let f = adds_to amount plan slot in
      let all : sum_over f order ≡ sum_below choices f = arranged.sums f in
      let split : sum_over f (take (length places) order) + sum_over f (drop (length places) order) ≡ sum_over f order =
      sym (sum_over-append f (take (length places) order) (drop (length places) order)) ∙ ap (sum_over f) (take-append-drop (length places) order) in
      let so_far : sum_below 64 (adds_to amount (decided order places) slot) ≡ sum_over f (take (length places) order) = unfold sum_up_to in load_is places g in
      omega (arith, all, split, so_far, drop_here f (length places) h)

  -- the plan's sum is at most what the slot has so far with all that remains, this choice included
  pub at_most : (places : List ℕ) → GoesOn choices order places plan → length places < choices
      → sum_up_to choices amount plan slot ≤ sum_up_to 64 amount (decided order places) slot + sum_over amount (drop (length places) order)
  at_most places g h =
      omega (
        arith,
        whole_is places g h,
        drop_here amount (length places) h,
        adds_most amount plan slot (get_or order (length places) 0),
        sum_over_le (adds_to amount plan slot) amount (drop (suc (length places)) order) (adds_most amount plan slot),
      )

  -- where the choice doesn't stand in the slot, the plan's sum is at most what the slot has with the rest
  pub at-most-without : (places : List ℕ) → GoesOn choices order places plan → length places < choices → (slot_of plan (get_or order (length places) 0) ≡ slot → ⊥)
      → sum_up_to choices amount plan slot ≤ sum_up_to 64 amount (decided order places) slot + (sum_over amount (drop (length places) order) - amount (get_or order (length places) 0))
  at-most-without places g h n =
      omega (
        arith,
        whole_is places g h,
        drop_here amount (length places) h,
        adds_none amount plan slot (get_or order (length places) 0) n,
        sum_over_le (adds_to amount plan slot) amount (drop (suc (length places)) order) (adds_most amount plan slot),
      )

  -- where the plan has the choice in the slot, what the slot has so far with the choice's amount is at most
  -- the plan's sum
  pub at_least : (places : List ℕ) → GoesOn choices order places plan → length places < choices → slot_of plan (get_or order (length places) 0) ≡ slot
      → sum_up_to 64 amount (decided order places) slot + amount (get_or order (length places) 0) ≤ sum_up_to choices amount plan slot
  at_least places g h e =
      omega (arith, whole_is places g h, adds_own amount plan slot (get_or order (length places) 0) e (omega arith))

  -- at the last depth no choice is left
  pub last-is : (places : List ℕ) → GoesOn choices order places plan → suc (length places) ≡ choices
      → sum_up_to 64 amount (decided order places) slot + adds_to amount plan slot (get_or order (length places) 0) ≡ sum_up_to choices amount plan slot
  unfolding sum_over
  last-is places g e =
      let none : sum_over (adds_to amount plan slot) (drop (suc (length places)) order) ≡ 0 =
      ap (sum_over (adds_to amount plan slot)) (drop_of_length-le order {i = suc (length places)} (omega (arith, arranged.long, e))) in
      omega (arith, whole_is places g (omega arith), none)
