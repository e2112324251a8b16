-- A good plan's next place is in the bucket: a plan that goes on from the places decided goes on with one of
-- the candidates.
use mathlib.Core.Path.{◌≡◌, refl, sym, ◌∙◌, ap}
use mathlib.Core.Bool.{Bool, true, false, not, cond}
use mathlib.Core.List.{List, [], ◌∷◌, ◌++◌, append-nil, Memᴰ}
use mathlib.Core.Logic.{◌⊎◌, inl, inr, ⊎_elim}
use Prim.Native.Nat.{ℕ, zero, suc, ◌+◌, ◌-◌, ◌≤◌, ◌<◌}
use native.Mathlib.Decide.{ℕ_discrete}
use native.Mathlib.Omega.{arith}
use borrow.Author.Tests.{lt-ltb, le-ltb, le-leb, eq-eqb, eqb-true, ltb-true}
use lib.Dec.{eqb, ltb, leb}
use lib.ListN.{length, get_or, drop}
use Rattle.base_lists.specs.Group.{keep_below}
use Rattle.base_lists.specs.Keep.{sum_over}
use Rattle.base_lists.proofs.Below.{and_both, each_all}
use Rattle.base_lists.proofs.Flat.{get_d_list}
use Rattle.base_lists.proofs.Partition.{kept}
use Rattle.plan_check.specs.Plan.{slot_of, sum_in, sum_up_to}
use Rattle.plan_check.specs.PlanMeans.{Placed, scheduled, left_out}
use Rattle.search_map.specs.Map.{looked_up, own_entry}
use Rattle.search_candidates.specs.Loads.{min_of, max_of}
use Rattle.search_candidates.specs.Tests.{some_short, critical_slots}
use Rattle.search_candidates.specs.Bucket.{Asked, allows, hopeless, is_open, may_omit, critical_of, bucket_of}
use Rattle.search_candidates.proofs.BucketLaws.{bucket_few, bucket_slot, bucket_omission, bucket_critical}
use Rattle.search_rules.specs.Decided.{decided, loads_at}
use Rattle.search_rules.specs.Pass.{Lent, choice_at, remaining_at, depth_at, asked_at, candidates_at}
use Rattle.search_rules.proofs.Along.{Arranged, GoesOn, decided-length}
use Rattle.search_rules.proofs.SumsAlong.{sum-in, at_most, at-most-without, at_least}
use Rattle.search_rules.proofs.RowsAlong.{GoodPlan, LimitsName, plan-allowed}
use Rattle.search_rules.proofs.SetsAlong.{SetsWhole, sets-free}

-- where only one number can pass there is none, or that one
pub keep-lone : (n : ℕ) (p : ℕ → Bool) (x : ℕ) → ((k : ℕ) → k < n → p k ≡ true → k ≡ x) → (keep_below n p ≡ []) ⊎ (keep_below n p ≡ x ∷ [])
unfolding keep_below
keep-lone zero p x h = inl refl
keep-lone (suc n) p x h = go (p n) refl (keep-lone n p x (λ k hk t. h k (omega arith) t))
  where
    go : (b : Bool) → p n ≡ b → (keep_below n p ≡ []) ⊎ (keep_below n p ≡ x ∷ [])
        → (keep_below n p ++ cond b (n ∷ []) [] ≡ []) ⊎ (keep_below n p ++ cond b (n ∷ []) [] ≡ x ∷ [])
    go true t ih =
        let e : n ≡ x = h n (omega arith) t in
        ⊎_elim (λ none. inr (ap (λ (l : List ℕ). l ++ (n ∷ [])) none ∙ ap (λ (k : ℕ). k ∷ []) e))
        (λ lone. let m : Memᴰ x (keep_below n p) = rw lone (mathlib.Core.List.Memᴰ.head refl) in let l : x < n = (kept n p x m).0 in absurd (omega arith)) ih
    go false t ih = rw (append-nil (keep_below n p)) ih

-- a pass over a day of 01's shape, in an order of its choices, with the own map's rows of each choice
pub record OwnPass (lent : Lent) : Type 0 where
  pub choices_in : lent.day.counts.choices ≤ 64
  pub slots_in : lent.day.counts.slots ≤ 24
  pub arranged : Arranged lent.day.counts.choices lent.order
  pub own-rows : (choice : ℕ) → choice < lent.day.counts.choices → looked_up lent.map lent.whole choice ≡ own_entry lent.day.rows choice
  pub named : LimitsName lent.day

-- a slot's sums so far, as they are listed
pub min-at : (mins maxs decisions : List ℕ) (slot : ℕ) → slot < 24 → min_of (loads_at mins maxs decisions) slot ≡ sum_in mins decisions slot
unfolding min_of loads_at
min-at mins maxs decisions slot h = get_d_list 24 (sum_in mins decisions) slot 0 h

pub max-at : (mins maxs decisions : List ℕ) (slot : ℕ) → slot < 24 → max_of (loads_at mins maxs decisions) slot ≡ sum_in maxs decisions slot
unfolding max_of loads_at
max-at mins maxs decisions slot h = get_d_list 24 (sum_in maxs decisions) slot 0 h

module _ (lent : Lent) (own : OwnPass lent) (plan : List ℕ) (good : GoodPlan lent.day plan)
    (places : List ℕ) (goes : GoesOn lent.day.counts.choices lent.order places plan) (on : length places < lent.day.counts.choices) (draw : ℕ) where
  abbrev choice : ℕ
  choice = get_or lent.order (length places) 0

  abbrev maxs_so_far : ℕ → ℕ
  maxs_so_far slot = max_of (loads_at lent.day.mins lent.day.maxs (decided lent.order places)) slot

  abbrev remaining : ℕ
  remaining = sum_over (λ c. get_or lent.day.maxs c 0) (drop (length places) lent.order)

  -- ---- sums

  max-is : (slot : ℕ) → slot < lent.day.counts.slots → maxs_so_far slot ≡ sum_up_to 64 (λ c. get_or lent.day.maxs c 0) (decided lent.order places) slot
  max-is slot h =
      max-at lent.day.mins lent.day.maxs (decided lent.order places) slot (omega (arith, own.slots_in))
      ∙ sum-in lent.day.maxs (decided lent.order places) slot 64 (decided-length lent.order places)

  -- what the plan has in a slot reaches H
  plan-reaches : (slot : ℕ) → slot < lent.day.counts.slots → lent.day.counts.choosers ≤ sum_up_to lent.day.counts.choices (λ c. get_or lent.day.maxs c 0) plan slot
  plan-reaches slot h =
      omega (arith, good.passes.maximums slot h, sum-in lent.day.maxs plan slot lent.day.counts.choices good.long)

  -- no slot is short of maximums
  pub none-short : some_short lent.day.counts.slots lent.day.counts.choosers (loads_at lent.day.mins lent.day.maxs (decided lent.order places)) remaining ≡ false
  unfolding some_short
  none-short =
      ap not (each_all lent.day.counts.slots (λ slot. leb lent.day.counts.choosers (maxs_so_far slot + remaining))
      λ slot h. le-leb lent.day.counts.choosers (maxs_so_far slot + remaining)
      (omega (
        arith,
        max-is slot h,
        plan-reaches slot h,
        at_most lent.day.counts.choices lent.order own.arranged own.choices_in plan (λ c. get_or lent.day.maxs c 0) slot (omega (arith, own.slots_in)) places goes on,
      )))

  -- only the plan's slot of this choice can be critical
  pub critical_own : (slot : ℕ) → slot < lent.day.counts.slots
      → ltb (maxs_so_far slot + (remaining - get_or lent.day.maxs choice 0)) lent.day.counts.choosers ≡ true → slot ≡ slot_of plan choice
  critical_own slot h t =
      elim (ℕ_discrete (slot_of plan choice) slot) [
        | yes e ↦ sym e
        | no n ↦
            let l = ltb-true (maxs_so_far slot + (remaining - get_or lent.day.maxs choice 0)) lent.day.counts.choosers t in
            absurd (omega (
              arith,
              l,
              max-is slot h,
              plan-reaches slot h,
              at-most-without lent.day.counts.choices lent.order own.arranged own.choices_in plan (λ c. get_or lent.day.maxs c 0) slot (omega (arith, own.slots_in)) places goes on n,
            ))
      ]

  -- the minimums leave room for this choice in the plan's slot
  pub min-fits : (slot : ℕ) → slot < lent.day.counts.slots → slot_of plan choice ≡ slot
      → min_of (loads_at lent.day.mins lent.day.maxs (decided lent.order places)) slot + get_or lent.day.mins choice 0 ≤ lent.day.counts.choosers
  min-fits slot h e =
      omega (
        arith,
        good.passes.minimums slot h,
        sum-in lent.day.mins plan slot lent.day.counts.choices good.long,
        min-at lent.day.mins lent.day.maxs (decided lent.order places) slot (omega (arith, own.slots_in)),
        sum-in lent.day.mins (decided lent.order places) slot 64 (decided-length lent.order places),
        at_least lent.day.counts.choices lent.order own.arranged own.choices_in plan (λ c. get_or lent.day.mins c 0) slot (omega (arith, own.slots_in)) places goes on e,
      )

  -- ---- the tests of the depth

  abbrev asked : Asked
  asked = asked_at lent places draw

  -- the rows allow the plan's place
  pub allows-plan : allows asked (slot_of plan choice) ≡ true
  unfolding allows asked_at depth_at choice_at loads_at
  allows-plan =
      rw (own.own-rows choice (own.arranged.below (length places) on))
      (plan-allowed lent.day lent.order own.arranged own.choices_in own.slots_in own.named plan good places goes on
      (eqb (suc (length places)) lent.day.counts.choices) (eqb-true (suc (length places)) lent.day.counts.choices))

  -- the depth is not hopeless
  pub some_hope : SetsWhole lent.day lent.sets → hopeless asked ≡ false
  unfolding hopeless asked_at depth_at remaining_at loads_at
  some_hope whole =
      rw (none-short, sets-free lent.day lent.order own.arranged own.choices_in own.slots_in plan good places goes lent.sets whole)

  -- no slot is critical, or the plan's is
  pub critical_lone : (critical_of asked ≡ []) ⊎ (critical_of asked ≡ slot_of plan choice ∷ [])
  unfolding critical_of critical_slots asked_at depth_at choice_at remaining_at
  critical_lone =
      keep-lone lent.day.counts.slots (λ slot. ltb (maxs_so_far slot + (remaining - get_or lent.day.maxs choice 0)) lent.day.counts.choosers) (slot_of plan choice) critical_own

  -- the plan's slot is open
  pub plan_open : (slot : ℕ) → slot < lent.day.counts.slots → slot_of plan choice ≡ slot → is_open asked slot ≡ true
  unfolding is_open asked_at depth_at choice_at
  plan_open slot h e =
      and_both (leb (min_of (loads_at lent.day.mins lent.day.maxs (decided lent.order places)) slot + get_or lent.day.mins choice 0) lent.day.counts.choosers) (allows asked slot)
      (le-leb _ _ (min-fits slot h e)) (ap (allows asked) (sym e) ∙ allows-plan)

  -- the choice may be omitted where the plan omits it
  pub plan_omits : slot_of plan choice ≡ 255 → get_or lent.day.optional choice 0 ≡ 1 → may_omit asked ≡ true
  unfolding may_omit asked_at depth_at choice_at
  plan_omits e f =
      and_both (eqb (get_or lent.day.optional choice 0) 1) (allows asked 255) (eq-eqb (get_or lent.day.optional choice 0) 1 f) (ap (allows asked) (sym e) ∙ allows-plan)

  -- ---- the bucket

  bucket_plan : SetsWhole lent.day lent.sets → Memᴰ (slot_of plan choice) (bucket_of asked)
  unfolding asked_at
  bucket_plan whole =
      ⊎_elim
      (λ (none : critical_of asked ≡ []). by none (good.passes.places choice (omega (arith, good.long, own.arranged.below (length places) on))))
      (λ (lone : critical_of asked ≡ slot_of plan choice ∷ []). bucket_critical asked (some_hope whole) (slot_of plan choice) lone allows-plan)
      critical_lone
    where
      by : critical_of asked ≡ [] → Placed lent.day.counts.slots lent.day.optional plan choice → Memᴰ (slot_of plan choice) (bucket_of asked)
      by none (scheduled h) = bucket_slot asked (some_hope whole) none (slot_of plan choice) h (plan_open (slot_of plan choice) h refl)
      by none (left_out e f) = rw e (bucket_omission asked (some_hope whole) none (plan_omits e f))

  -- a good plan's next place is in the bucket
  pub in_bucket : SetsWhole lent.day lent.sets → Memᴰ (slot_of plan (choice_at lent (length places))) (candidates_at lent places draw)
  unfolding candidates_at choice_at
  in_bucket whole = rw (lt-ltb (length places) lent.day.counts.choices on) (bucket_plan whole)

-- ---- how many candidates

pub few : (lent : Lent) (places : List ℕ) (draw : ℕ) → length (candidates_at lent places draw) ≤ suc lent.day.counts.slots
unfolding candidates_at asked_at
few lent places draw = go (ltb (length places) lent.day.counts.choices)
  where
    go : (b : Bool) → length (cond b (bucket_of (asked_at lent places draw)) []) ≤ suc lent.day.counts.slots
    go true = bucket_few (asked_at lent places draw)
    go false = omega arith

-- there are no candidates at depth C
pub none-at-end : (lent : Lent) (places : List ℕ) (draw : ℕ) → length places ≡ lent.day.counts.choices → candidates_at lent places draw ≡ []
unfolding candidates_at
none-at-end lent places draw e = rw (le-ltb (length places) lent.day.counts.choices (omega arith))
