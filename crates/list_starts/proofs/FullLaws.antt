-- A full start: the page, the plan check or what is left of it at a node, and what the runs make of them.
use mathlib.Core.Path.{◌≡◌, refl, sym, ◌∙◌, ap}
use mathlib.Core.Bool.{Bool, true, false, ◌&&◌, ◌||◌, cond, false≢true}
use mathlib.Core.List.{List}
use Prim.Native.Nat.{ℕ, ◌+◌, ◌-◌, ◌*◌, ◌≤◌, ◌<◌, ◌^◌}
use native.Mathlib.Omega.{arith}
use borrow.Author.Tests.{lt-ltb, le-ltb, le-leb, lt-leb, ltb-true, eq-eqb}
use lib.Dec.{eqb, ltb, leb}
use lib.ListN.{length, get_or}
use lib.Seq.{sets}
use Rattle.base_lists.specs.All.{all_of}
use Rattle.base_lists.specs.Below.{all_below}
use Rattle.base_lists.proofs.All.{each-all_of}
use Rattle.base_lists.proofs.Below.{all-each, one-fails}
use Rattle.base_lists.proofs.Sums.{all_ext}
use Rattle.plan_check.proofs.PlanLaws.{slot-at}
use Rattle.plan_check.specs.Day.{Day}
use Rattle.plan_check.specs.Check.{cell_fits}
use Rattle.plan_check.specs.steps.Kept.{keeps_every}
use Rattle.plan_check.specs.Plan.{slot_of, sum_in}
use Rattle.plan_check.specs.Feasible.{omission_allowed, place_allowed, places_allowed, slot_fits, feasible, is_feasible}
use Rattle.plan_check.specs.steps.Sums.{Sums}
use Rattle.plan_check.proofs.KeptLaws.{every-rows}
use Rattle.list_nodes.specs.Placements.{is_node}
use Rattle.list_nodes.specs.steps.Walk.{if_feasible, put_plan}
use Rattle.list_nodes.specs.steps.Runs.{Shaped, Added}
use Rattle.list_nodes.proofs.PageLaws.{put-before, put-behind, put-here, buffer-room, worker, not-added, number_fits, one-added}
use Rattle.list_nodes.proofs.StartLaws.{node_facts}
use Rattle.list_starts.specs.steps.Starts.{put_within, slots_filled, full_passes, is_numbered, total_with, page_with}

-- ---- the page

module _ (first room : ℕ) (buffer : List ℕ) (number : ℕ) (plan : List ℕ) where
  -- where the plan has no place on the page, the length of the buffer says nothing
  unchanged : buffer ≡ put_plan first room buffer number plan → buffer ≡ put_within first room buffer number plan
  unfolding put_within
  unchanged e = go (eqb (length buffer) (room * length plan))
    where
      go : (b : Bool) → buffer ≡ cond b (put_plan first room buffer number plan) buffer
      go true = e
      go false = refl

  pub within-before : number < first → buffer ≡ put_within first room buffer number plan
  within-before h = unchanged (put-before first room buffer number plan h)

  module _ (h : first ≤ number) where
    pub within-behind : room ≤ number - first → buffer ≡ put_within first room buffer number plan
    within-behind o = unchanged (put-behind first room buffer number plan h o)

    pub within-not : eqb (length buffer) (room * length plan) ≡ false → buffer ≡ put_within first room buffer number plan
    unfolding put_within
    within-not f = rw f

    pub within-here : number - first < room → eqb (length buffer) (room * length plan) ≡ true
        → sets buffer ((number - first) * length plan) plan ≡ put_within first room buffer number plan
    unfolding put_within
    within-here o t = put-here first room buffer number plan h o ∙ sym (rw t)

-- ---- what passes, and what doesn't

module _ (first room : ℕ) (plan buffer : List ℕ) (number : ℕ) where
  pub no_number : 2 ^ 64 ≤ number + 1 → (number ≡ total_with true number) × (buffer ≡ page_with true first room plan buffer number)
  unfolding total_with page_with is_numbered
  no_number h = rw (le-ltb (number + 1) (2 ^ 64) h) (refl, refl)

  pub numbered : number + 1 < 2 ^ 64 → {buffer' : List ℕ} → buffer' ≡ put_within first room buffer number plan
      → (number + 1 ≡ total_with true number) × (buffer' ≡ page_with true first room plan buffer number)
  unfolding total_with page_with is_numbered
  numbered h w = rw (lt-ltb (number + 1) (2 ^ 64) h) (refl, w)

  module _ {passes : Bool} where
    pub not-passed : passes ≡ false → (number ≡ total_with passes number) × (buffer ≡ page_with passes first room plan buffer number) × (plan ≡ plan)
    unfolding total_with page_with is_numbered
    not-passed f = rw f (refl, refl, refl)

    pub has-passed : passes ≡ true → {total' : ℕ} {buffer' : List ℕ} → total' ≡ total_with true number → buffer' ≡ page_with true first room plan buffer number
        → (total' ≡ total_with passes number) × (buffer' ≡ page_with passes first room plan buffer number) × (plan ≡ plan)
    has-passed t n w = rw t (n, w, refl)

-- ---- the slots' sums of maximums, and the rows

module _ (slots choosers : ℕ) (fills : List ℕ) where
  pub too_many : 24 < slots → false ≡ slots_filled slots choosers fills
  unfolding slots_filled
  too_many h = rw (lt-leb slots 24 h)

  module _ (few : slots ≤ 24) where
    pub not-filled : (slot : ℕ) → slot < slots → get_or fills slot 0 < choosers → false ≡ slots_filled slots choosers fills
    unfolding slots_filled
    not-filled slot h u =
        rw (le-leb slots 24 few) (sym (one-fails slots (λ s. leb choosers (get_or fills s 0)) slot h (lt-leb _ _ u)))

    pub all-filled : all_below slots (λ slot. leb choosers (get_or fills slot 0)) ≡ true → true ≡ slots_filled slots choosers fills
    unfolding slots_filled
    all-filled a = rw (le-leb slots 24 few, a)

  module _ (rows plan : List ℕ) where
    pub full_unfilled : slots_filled slots choosers fills ≡ false → full_passes slots choosers rows fills plan ≡ false
    unfolding full_passes
    full_unfilled f = rw f

    pub full-rows : slots_filled slots choosers fills ≡ true → keeps_every plan rows ≡ full_passes slots choosers rows fills plan
    unfolding full_passes
    full-rows t = rw t

-- ---- a full start that is a node: the rest of the plan check

-- places that are allowed are slots or omissions
allowed-cells : (slots : ℕ) (optional plan : List ℕ) → slots ≤ 24 → places_allowed slots optional plan ≡ true → all_of (cell_fits 24) plan ≡ true
unfolding places_allowed place_allowed omission_allowed cell_fits
allowed-cells slots optional plan few p =
    each-all_of (cell_fits 24) plan 0 λ k h.
    rw (slot-at plan k h)
    (placed (slot_of plan k) (ltb (slot_of plan k) slots) refl (eqb (slot_of plan k) 255) (eqb (get_or optional k 0) 1)
    (all-each (length plan) (place_allowed slots optional plan) p k h))
  where
    placed : (place : ℕ) (b : Bool) → ltb place slots ≡ b → (o f : Bool) → (b || (o && f)) ≡ true → (o || ltb place 24) ≡ true
    placed place b t true f h = refl
    placed place true t false f h = lt-ltb place 24 (omega (arith, few, ltb-true place slots t))
    placed place false t false f h = absurd (false≢true h)

module _ (day : Day) (plan fills : List ℕ) (few : day.counts.slots ≤ 24) (short : length plan ≤ 64) (node : is_node day plan ≡ true) (held : Sums day.maxs plan fills) where
  -- at a node the sums of maximums decide whether the slots' sums fit
  node-sums : all_below day.counts.slots (λ slot. leb day.counts.choosers (get_or fills slot 0)) ≡ all_below day.counts.slots (slot_fits day.counts.choosers day.mins day.maxs plan)
  unfolding slot_fits Sums
  node-sums =
      all_ext day.counts.slots (λ slot. leb day.counts.choosers (get_or fills slot 0))
      (λ slot. leb (sum_in day.mins plan slot) day.counts.choosers && leb day.counts.choosers (sum_in day.maxs plan slot))
      λ slot h. rw (held slot, le-leb _ _ ((node_facts day plan node).low slot h))

  pub node-decides : full_passes day.counts.slots day.counts.choosers day.rows fills plan ≡ feasible day plan
  unfolding full_passes slots_filled feasible
  node-decides =
      let a = (node_facts day plan node).allowed in
      rw (le-leb day.counts.slots 24 few, node-sums, a, sym (every-rows plan day.rows short (allowed-cells day.counts.slots day.optional plan few a)))

-- ---- on a day and a page of it the plans with this start are those that the listing has

module _ (day : Day) (first room : ℕ) (plan buffer : List ℕ) (number : ℕ) (s : Shaped day room plan buffer) (fits : number + length (if_feasible day plan) < 2 ^ 64) where
  pub full-added : {total' : ℕ} {buffer' : List ℕ} → total' ≡ total_with (is_feasible day plan) number → buffer' ≡ page_with (is_feasible day plan) first room plan buffer number
      → Added first room (if_feasible day plan) number total' buffer buffer'
  unfolding total_with page_with is_numbered put_within
  full-added {total'} {buffer'} n p = go (is_feasible day plan) refl
    where
      go : (b : Bool) → is_feasible day plan ≡ b → Added first room (if_feasible day plan) number total' buffer buffer'
      go true t =
          let h = number_fits day room plan buffer s refl t number fits in
          let k : total' ≡ number + 1 = n ∙ rw (t, lt-ltb (number + 1) (2 ^ 64) h) in
          let w : buffer' ≡ put_plan first room buffer number plan =
          p ∙ rw (t, lt-ltb (number + 1) (2 ^ 64) h, eq-eqb (length buffer) (room * length plan) (buffer-room day room plan buffer s)) in
          rw k (one-added day room plan buffer s refl t first number w)
      go false f =
          let k : total' ≡ number = n ∙ rw f in
          let w : buffer' ≡ buffer = p ∙ rw f in
          rw (k, w) (not-added day room plan buffer s refl f first number)

  -- a full start that is a node, with its sums of maximums, adds its plan if it passes
  pub node-added : (fills : List ℕ) → is_node day plan ≡ true → Sums day.maxs plan fills → {total' : ℕ} {buffer' : List ℕ}
      → total' ≡ total_with (full_passes day.counts.slots day.counts.choosers day.rows fills plan) number
      → buffer' ≡ page_with (full_passes day.counts.slots day.counts.choosers day.rows fills plan) first room plan buffer number
      → Added first room (if_feasible day plan) number total' buffer buffer'
  node-added fills node held n p =
      let e = node-decides day plan fills s.few-slots (omega (arith, s.plan-fits, s.few-choices)) node held ∙ worker day room plan buffer s in
      full-added (n ∙ ap (λ (b : Bool). total_with b number) e) (p ∙ ap (λ (b : Bool). page_with b first room plan buffer number) e)
