-- No critical set of all choices is stuck for a good plan: each slot holds one of its choices, which is
-- decided, and then covers the slot, or undecided, and then is counted.
use mathlib.Core.Path.{◌≡◌, refl, ◌∙◌, ap}
use mathlib.Core.Bool.{Bool, true, false, ◌&&◌, not, cond}
use mathlib.Core.List.{List, [], ◌∷◌, Memᴰ}
use mathlib.Core.Logic.{⊎_elim}
use Prim.Native.Nat.{ℕ, zero, suc, ◌+◌, ◌-◌, ◌≤◌, ◌<◌}
use native.Mathlib.Decide.{ℕ_discrete, dec_lt}
use native.Mathlib.Nat.{add-zero, add-suc}
use native.Mathlib.Omega.{arith}
use borrow.Author.Tests.{le-ltb, ltb-true, eq-eqb}
use lib.Dec.{eqb, ltb}
use lib.ListN.{length, get_or}
use Rattle.base_lists.specs.Below.{one, count_below, sum_below}
use Rattle.base_lists.specs.Keep.{any_of}
use Rattle.base_lists.proofs.Below.{and_both, one-fails}
use Rattle.base_lists.proofs.CountBelow.{count_misses, count-split}
use Rattle.base_lists.proofs.Flat.{length-list, get_d_list}
use Rattle.plan_check.specs.Day.{Day}
use Rattle.plan_check.specs.Plan.{slot_of, sum_up_to, sum_in}
use Rattle.base_choice_sets.specs.Sets.{has, set_of, meets}
use Rattle.base_choice_sets.specs.Reach.{covered_slots, undecided_members, reach_of, stuck, some_stuck}
use Rattle.base_choice_sets.proofs.SetLaws.{has-set, count_mono}
use Rattle.search_candidates.specs.Allow.{undecided, decision_of, is_undecided}
use Rattle.search_candidates.specs.Tests.{held_by, undecided_of, sets_stuck}
use Rattle.search_rules.specs.Decided.{decided}
use Rattle.search_rules.proofs.Along.{Arranged, GoesOn, decided_or}
use Rattle.search_rules.proofs.SumsAlong.{adds_to, adds_none, sum-in}
use Rattle.search_rules.proofs.RowsAlong.{GoodPlan}

-- ---- counts, sums and sets

-- a sum that isn't 0 has a part that isn't
pub sum-some : (n : ℕ) (f : ℕ → ℕ) → 0 < sum_below n f → (k : ℕ) × (k < n) × (0 < f k)
unfolding sum_below
sum-some zero f h = absurd (omega arith)
sum-some (suc n) f h =
    elim (dec_lt 0 (f n)) [
      | yes l ↦ (n, omega arith, l)
      | no l ↦ let r = sum-some n f (omega (arith, l)) in (r.0, omega (arith, r.1), r.2)
    ]

-- below a higher bound no fewer numbers pass a test
pub count_wider : (n more : ℕ) (p : ℕ → Bool) → count_below n p ≤ count_below (n + more) p
unfolding count_below
count_wider n zero p = rw (add-zero n) (omega arith)
count_wider n (suc more) p = rw (add-suc n more) (omega (arith, count_wider n more p))

-- a test that every element of a list fails is passed by none
pub any_not : (p : ℕ → Bool) (l : List ℕ) → ((x : ℕ) → Memᴰ x l → p x ≡ false) → any_of p l ≡ false
unfolding any_of
any_not p [] h = refl
any_not p (x ∷ l) h = rw (h x (Memᴰ.head refl)) (any_not p l λ y m. h y (Memᴰ.tail m))

-- two sets with a choice in common meet
pub meets-by : (former latter choice : ℕ) → choice < 64 → has former choice ≡ true → has latter choice ≡ true → meets former latter ≡ true
unfolding meets
meets-by former latter choice h f l =
    ap not (one-fails 64 (λ c. not (has former c && has latter c)) choice h (rw (f, l)))

-- each set is all choices, and there is a chooser; where there is no set nothing is asked
abbrev pub SetsWhole : Day → List ℕ → Type 0
SetsWhole day sets = (set : ℕ) → Memᴰ set sets → (0 < day.counts.choosers) × ((choice : ℕ) → choice < day.counts.choices → has set choice ≡ true)

-- ---- along a pass

module _ (day : Day) (order : List ℕ) (arranged : Arranged day.counts.choices order) (few : day.counts.choices ≤ 64) (slots_in : day.counts.slots ≤ 24)
    (plan : List ℕ) (good : GoodPlan day plan) (places : List ℕ) (goes : GoesOn day.counts.choices order places plan) where
  -- a slot with a chooser holds a choice
  pub slot_held : 0 < day.counts.choosers → (slot : ℕ) → slot < day.counts.slots → (choice : ℕ) × (choice < day.counts.choices) × (slot_of plan choice ≡ slot)
  unfolding sum_up_to
  slot_held some slot h =
      let f = adds_to (λ c. get_or day.maxs c 0) plan slot in
      let e : sum_in day.maxs plan slot ≡ sum_below day.counts.choices f = sum-in day.maxs plan slot day.counts.choices good.long in
      let r = sum-some day.counts.choices f (omega (arith, e, good.passes.maximums slot h)) in (
        r.0,
        r.1,
        elim (ℕ_discrete (slot_of plan r.0) slot) [
          | yes q ↦ q
          | no q ↦ absurd (omega (arith, r.2, adds_none (λ c. get_or day.maxs c 0) plan slot r.0 q))
        ],
      )

  -- an undecided choice's place in the plan
  abbrev ahead : ℕ → ℕ
  ahead choice = cond (is_undecided (decided order places) choice) (slot_of plan choice) 255

  -- a choice whose place ahead is a slot is undecided
  ahead_open : (choice slots : ℕ) → slots ≤ 24 → ltb (ahead choice) slots ≡ true → is_undecided (decided order places) choice ≡ true
  ahead_open choice slots h t = go (is_undecided (decided order places) choice) refl (ltb-true (ahead choice) slots t)
    where
      go : (b : Bool) → is_undecided (decided order places) choice ≡ b → cond b (slot_of plan choice) 255 < slots → is_undecided (decided order places) choice ≡ true
      go true e l = e
      go false e l = absurd (omega arith)

  module _ (set : ℕ) (whole : (choice : ℕ) → choice < day.counts.choices → has set choice ≡ true) (some : 0 < day.counts.choosers) where
    abbrev held : List ℕ
    held = held_by day.counts.choices day.counts.slots (decided order places)

    -- a decided choice of a slot is held by it
    covers-by : (choice slot : ℕ) → choice < day.counts.choices → slot < day.counts.slots → decision_of (decided order places) choice ≡ slot → meets (get_or held slot 0) set ≡ true
    unfolding held_by
    covers-by choice slot hc hs e =
        let in_slot : ℕ → Bool = λ c. eqb (decision_of (decided order places) c) slot in
        let h : get_or held slot 0 ≡ set_of day.counts.choices in_slot =
        get_d_list day.counts.slots (λ s. set_of day.counts.choices λ c. eqb (decision_of (decided order places) c) s) slot 0 hs in
        meets-by (get_or held slot 0) set choice (omega arith)
        (ap (λ (x : ℕ). has x choice) h ∙ has-set day.counts.choices in_slot choice hc ∙ eq-eqb (decision_of (decided order places) choice) slot e)
        (whole choice hc)

    -- slot by slot: each slot of the plan is covered, or counted by an undecided choice
    spread : (n : ℕ) → n ≤ day.counts.slots → n ≤ count_below n (λ slot. meets (get_or held slot 0) set) + count_below day.counts.choices (λ choice. ltb (ahead choice) n)
    unfolding count_below one
    spread zero h = omega arith
    spread (suc n) h = go (spread n (omega arith)) (slot_held some n h)
      where
        split : count_below day.counts.choices (λ choice. ltb (ahead choice) (suc n))
            ≡ count_below day.counts.choices (λ choice. ltb (ahead choice) n) + count_below day.counts.choices (λ choice. eqb (ahead choice) n)
        split = count-split day.counts.choices ahead n

        go : n ≤ count_below n (λ slot. meets (get_or held slot 0) set) + count_below day.counts.choices (λ choice. ltb (ahead choice) n)
            → (choice : ℕ) × (choice < day.counts.choices) × (slot_of plan choice ≡ n)
            → suc n ≤ count_below n (λ slot. meets (get_or held slot 0) set) + one (meets (get_or held n 0) set) + count_below day.counts.choices (λ choice. ltb (ahead choice) (suc n))
        go ih r =
            ⊎_elim
            (λ (u : decision_of (decided order places) r.0 ≡ undecided).
            let is-ahead : eqb (ahead r.0) n ≡ true = unfold is_undecided in rw (eq-eqb (decision_of (decided order places) r.0) undecided u) (eq-eqb (slot_of plan r.0) n r.2) in
            omega (arith, ih, split, count_misses day.counts.choices (λ choice. eqb (ahead choice) n) r.0 r.1 is-ahead))
            (λ (d : decision_of (decided order places) r.0 ≡ slot_of plan r.0).
            let c : one (meets (get_or held n 0) set) ≡ 1 = ap one (covers-by r.0 n r.1 h (d ∙ r.2)) in
            omega (arith, ih, split, c))
            (decided_or day.counts.choices order arranged few plan places goes r.0)

    -- the undecided choices are counted
    ahead-counted : count_below day.counts.choices (λ choice. ltb (ahead choice) day.counts.slots) ≤ undecided_members (undecided_of day.counts.choices (decided order places)) set
    unfolding undecided_members undecided_of
    ahead-counted =
        let C = day.counts.choices in
        let q : ℕ → Bool = λ choice. has set choice && has (set_of C (is_undecided (decided order places))) choice in
        let e : C + (64 - C) ≡ 64 = omega arith in
        let fewer : count_below C (λ choice. ltb (ahead choice) day.counts.slots) ≤ count_below C q =
        count_mono C (λ choice. ltb (ahead choice) day.counts.slots) q
        (λ choice h t. and_both (has set choice) (has (set_of C (is_undecided (decided order places))) choice) (whole choice h)
        (has-set C (is_undecided (decided order places)) choice h ∙ ahead_open choice day.counts.slots slots_in t)) in
        let wider : count_below C q ≤ count_below 64 q = rw e at (count_wider C (64 - C) q) in
        omega (arith, fewer, wider)

    -- a set of all choices isn't stuck
    pub set_free : stuck held (undecided_of day.counts.choices (decided order places)) set ≡ false
    unfolding stuck reach_of covered_slots
    set_free =
        let l : length held ≡ day.counts.slots = unfold held_by in length-list day.counts.slots (λ s. set_of day.counts.choices λ c. eqb (decision_of (decided order places) c) s) in
        rw l (le-ltb (count_below day.counts.slots (λ slot. meets (get_or held slot 0) set) + undecided_members (undecided_of day.counts.choices (decided order places)) set) day.counts.slots
        (omega (arith, spread day.counts.slots (omega arith), ahead-counted)))

  -- where each set is all choices, no set is stuck
  pub sets-free : (sets : List ℕ) → SetsWhole day sets → sets_stuck day.counts.choices day.counts.slots (decided order places) sets ≡ false
  unfolding sets_stuck some_stuck
  sets-free sets w =
      any_not (stuck (held_by day.counts.choices day.counts.slots (decided order places)) (undecided_of day.counts.choices (decided order places))) sets
      λ set m. set_free set (w set m).1 (w set m).0
