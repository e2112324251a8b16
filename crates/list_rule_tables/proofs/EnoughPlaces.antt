-- The places with which the choices after are enough: the place of a feasible plan stays.
use mathlib.Core.Path.{◌≡◌, refl, sym, ◌∙◌, ap}
use mathlib.Core.Bool.{Bool, true, false, ◌&&◌, cond}
use mathlib.Core.List.{List}
use Prim.Native.Nat.{ℕ, ◌+◌, ◌-◌, ◌≤◌, ◌<◌}
use native.Mathlib.Omega.{arith}
use borrow.Author.Tests.{le-leb, leb-true, leb-false, eq-eqb, ne_eqb}
use lib.Dec.{eqb, ltb, leb}
use lib.ListN.{length, get_or, take, replicate, length-replicate}
use Rattle.base_lists.specs.Below.{sum_below}
use Rattle.base_lists.proofs.Below.{and_left, and_both, sum_more}
use Rattle.base_lists.proofs.SumBelow.{sum_ext}
use Rattle.day_rows.specs.declared.check.Counts.{Counts}
use Rattle.base_choice_sets.specs.Sets.{has, set_of}
use Rattle.base_choice_sets.proofs.SetLaws.{has-set}
use Rattle.plan_check.specs.Day.{Day}
use Rattle.plan_check.specs.Plan.{slot_of, stands_in, sum_up_to, sum_in}
use Rattle.plan_check.specs.Feasible.{feasible}
use Rattle.plan_check.specs.PlanMeans.{Placed}
use Rattle.plan_check.proofs.Meaning.{feasible_means}
use Rattle.plan_check.proofs.PlanLaws.{stands-omitted, stands_by}
use Rattle.list_tables.specs.steps.Weights.{least, least_of, sum_from}
use Rattle.list_tables.specs.steps.Tables.{TablesFilled, entry_at, weight_at, written}
use Rattle.list_tables.proofs.WeightLaws.{sum_join}
use Rattle.list_tables.proofs.TableLaws.{written_in, entry-least}
use Rattle.list_tables.proofs.StartLaws.{stands_only, start-sum}
use Rattle.list_domains.specs.steps.Domains.{place_number}
use Rattle.list_domains.proofs.DomainLaws.{number_in}
use Rattle.list_rule_tables.specs.steps.Enough.{lack_at, lacks_at, need_of, weight_after, slot_kept, enough_with, enough_asked, enough_places}
use Rattle.list_rule_tables.proofs.FillLaws.{lacks_weigh, change_one}

-- what is written for a slot stands at its place
written_at : (slots : ℕ) (f : ℕ → ℕ) → slots ≤ 24 → (slot : ℕ) → slot < slots → get_or (written slots 0 f (replicate 24 0)) slot 0 ≡ f slot
written_at slots f few slot hs =
    let z : slot ≡ 0 + slot = omega arith in
    let n : length (replicate {A = ℕ} 24 0) ≡ 24 = length-replicate {A = ℕ} 24 0 in
    ap (λ (x : ℕ). get_or (written slots 0 f (replicate 24 0)) x 0) z ∙ written_in 0 f (replicate 24 0) slots slot (omega (arith, n)) hs

pub lack-at : (choosers slots : ℕ) (fills : List ℕ) → slots ≤ 24 → (slot : ℕ) → slot < slots → get_or (lacks_at choosers slots fills) slot 0 ≡ choosers - get_or fills slot 0
unfolding lacks_at lack_at
lack-at choosers slots fills few slot hs = written_at slots (lack_at choosers fills) few slot hs

-- what the lacks weigh, one slot more
pub need-start : (entry : ℕ → ℕ → ℕ → ℕ) (table from : ℕ) (lacks : List ℕ) → 0 ≡ need_of entry 0 table from lacks
unfolding need_of sum_below
need-start entry table from lacks = refl

pub need-step : (entry : ℕ → ℕ → ℕ → ℕ) (table from : ℕ) (lacks : List ℕ) (slot need part : ℕ) → need ≡ need_of entry slot table from lacks
    → part ≡ entry table from (get_or lacks slot 0) → need + part ≡ need_of entry (slot + 1) table from lacks
unfolding need_of
need-step entry table from lacks slot need part n p =
    let f : ℕ → ℕ = λ s. entry table from (get_or lacks s 0) in
    ap (λ (x : ℕ). x + part) n ∙ ap (λ (x : ℕ). sum_below slot f + x) p ∙ sym (sum_more f slot)

module _ (day : Day) (plan tables : List ℕ) (feasibly : feasible day plan ≡ true) (len : length plan ≡ day.counts.choices)
    (filled : TablesFilled day.counts day.maxs tables) (few : day.counts.choices ≤ 64) (held : day.counts.choosers ≤ 200)
    (choice : ℕ) (fills : List ℕ) (domain : ℕ) (inside : choice < day.counts.choices)
    (sums : (slot : ℕ) → get_or fills slot 0 ≡ sum_in day.maxs (take choice plan) slot) where
  abbrev most : ℕ
  most = get_or day.maxs choice 0

  abbrev from : ℕ
  from = choice + 1

  abbrev spare : ℕ
  spare = weight_after (weight_at tables) day.counts.choices (choice + 1)

  abbrev lacks : List ℕ
  lacks = lacks_at day.counts.choosers day.counts.slots fills

  abbrev need : ℕ
  need = need_of (entry_at tables) day.counts.slots 1 (choice + 1) (lacks_at day.counts.choosers day.counts.slots fills)

  -- what a slot's lack weighs once the choice stands at its place
  abbrev after : ℕ → ℕ
  after slot = entry_at tables 1 (choice + 1) (get_or (lacks_at day.counts.choosers day.counts.slots fills) slot 0 - cond (stands_in plan choice slot) (get_or day.maxs choice 0) 0)

  module _ (thin : day.counts.slots ≤ 24) where
    -- what a slot lacks once the choice stands at its place, the choices after it fill
    abbrev rest : ℕ → ℕ
    rest slot = get_or lacks slot 0 - cond (stands_in plan choice slot) (get_or day.maxs choice 0) 0

    rest-filled : (slot : ℕ) → slot < day.counts.slots
        → rest slot ≤ sum_from from (day.counts.choices - from) λ k. cond (stands_in plan k slot) (get_or day.maxs k 0) 0
    unfolding sum_in sum_up_to
    rest-filled slot hs =
        let count : ℕ = day.counts.choices - from in
        let m : ℕ → ℕ = λ k. cond (stands_in plan k slot) (get_or day.maxs k 0) 0 in
        let q : from + count ≡ length plan = omega (arith, len, inside) in
        let all : day.counts.choosers ≤ sum_below (length plan) m = (feasible_means day plan feasibly).maximums slot hs in
        let j : sum_below (length plan) m ≡ sum_below from m + sum_from from count m = ap (λ (x : ℕ). sum_below x m) (sym q) ∙ sum_join from count m in
        let b : sum_in day.maxs (take choice plan) slot ≡ sum_below choice m = start-sum day.maxs plan choice slot (omega (arith, len, inside)) in
        let a : get_or lacks slot 0 ≡ day.counts.choosers - get_or fills slot 0 = lack-at day.counts.choosers day.counts.slots fills thin slot hs in
        omega (arith, all, j, sum_more m choice, b, a, sums slot)

    -- what the slots lack once the choice stands at its place weighs no more than the choices after
    after-fits : sum_below day.counts.slots after ≤ spare
    unfolding weight_after least_of
    after-fits =
        let slots : ℕ = day.counts.slots in
        let count : ℕ = day.counts.choices - from in
        let w : ℕ → ℕ = weight_at tables 1 in
        let g : ℕ → ℕ = λ slot. least w (λ k. get_or day.maxs k 0) from count (rest slot) in
        let same : sum_below slots after ≡ sum_below slots g = sum_ext slots after g λ slot hs. entry-is slot hs in
        let fits : sum_below slots g ≤ sum_from from count w =
        lacks_weigh w (λ k. get_or day.maxs k 0) (λ k. true) (stands_in plan) (slot_of plan) (stands_only plan) slots from count rest rest-filled in
        omega (arith, same, fits)
      where
        entry-is : (slot : ℕ) → slot < day.counts.slots
            → after slot ≡ least (weight_at tables 1) (λ k. get_or day.maxs k 0) from (day.counts.choices - from) (rest slot)
        entry-is slot hs =
            let a : get_or lacks slot 0 ≡ day.counts.choosers - get_or fills slot 0 = lack-at day.counts.choosers day.counts.slots fills thin slot hs in
            entry-least day.counts day.maxs tables filled few held 1 from (rest slot) (omega arith) (omega (arith, inside)) (omega (arith, a))

    -- a slot's lack where the choice doesn't stand
    after_same : (slot : ℕ) → stands_in plan choice slot ≡ false → after slot ≡ entry_at tables 1 from (get_or lacks slot 0)
    after_same slot t =
        ap (λ (b : Bool). entry_at tables 1 from (get_or lacks slot 0 - cond b (get_or day.maxs choice 0) 0)) t
        ∙ ap (λ (x : ℕ). entry_at tables 1 from x) (minus_none (get_or lacks slot 0))
      where
        minus_none : (x : ℕ) → x - 0 ≡ x
        minus_none x = omega arith

    -- an omitted choice is not needed
    omitted-enough : slot_of plan choice ≡ 255 → need ≤ spare
    unfolding need_of
    omitted-enough o =
        let same : sum_below day.counts.slots after ≡ sum_below day.counts.slots (λ slot. entry_at tables 1 from (get_or lacks slot 0)) =
        sum_ext day.counts.slots after (λ slot. entry_at tables 1 from (get_or lacks slot 0)) λ slot hs. after_same slot (stands-omitted plan choice slot o) in
        omega (arith, same, after-fits)

    -- a choice in a slot leaves enough for the others
    slot-enough : (p : ℕ) → p < day.counts.slots → slot_of plan choice ≡ p
        → 0 + entry_at tables 1 from (get_or lacks p 0 - most) + need ≤ spare + entry_at tables 1 from (get_or lacks p 0)
    unfolding need_of
    slot-enough p hp e =
        let g : ℕ → ℕ = λ slot. entry_at tables 1 from (get_or lacks slot 0) in
        let c : sum_below day.counts.slots after + g p ≡ sum_below day.counts.slots g + after p = change_one day.counts.slots after g p hp other in
        let h : after p ≡ entry_at tables 1 from (get_or lacks p 0 - most) =
        ap (λ (b : Bool). entry_at tables 1 from (get_or lacks p 0 - cond b (get_or day.maxs choice 0) 0)) (by p ∙ eq-eqb (slot_of plan choice) p e) in
        omega (arith, c, h, after-fits)
      where
        by : (slot : ℕ) → stands_in plan choice slot ≡ eqb (slot_of plan choice) slot
        by slot = stands_by plan choice slot (λ z. absurd (omega (arith, z, e, hp, thin)))

        other : (slot : ℕ) → slot < day.counts.slots → (slot ≡ p → ⊥) → after slot ≡ entry_at tables 1 from (get_or lacks slot 0)
        other slot hs q = after_same slot (by slot ∙ ne_eqb (slot_of plan choice) slot (λ z. q (sym z ∙ e)))

    -- the plan's place stays
    with_keeps : has domain (place_number day.counts.slots (slot_of plan choice)) ≡ true
        → has (enough_with (entry_at tables) day.counts.slots from lacks most spare domain) (place_number day.counts.slots (slot_of plan choice)) ≡ true
    unfolding enough_with slot_kept
    with_keeps d = go (leb need spare) refl
      where
        kept : spare < need → Placed day.counts.slots day.optional plan choice
            → has (set_of day.counts.slots (slot_kept (entry_at tables) 1 from lacks 0 most need spare domain)) (place_number day.counts.slots (slot_of plan choice)) ≡ true
        kept o (Placed.left_out e x) = absurd (omega (arith, o, omitted-enough e))
        kept o (Placed.scheduled h) =
            let p : ℕ = slot_of plan choice in
            let e : place_number day.counts.slots p ≡ p = number_in day.counts.slots p h in
            let dp : has domain p ≡ true = ap (λ (x : ℕ). has domain x) (sym e) ∙ d in
            rw e
            (has-set day.counts.slots (slot_kept (entry_at tables) 1 from lacks 0 most need spare domain) p h
            ∙ and_both (has domain p) (leb (0 + entry_at tables 1 from (get_or lacks p 0 - most) + need) (spare + entry_at tables 1 from (get_or lacks p 0))) dp
            (le-leb _ _ (slot-enough p h refl)))

        go : (b : Bool) → leb need spare ≡ b
            → has (cond b domain (set_of day.counts.slots (slot_kept (entry_at tables) 1 from lacks 0 most need spare domain))) (place_number day.counts.slots (slot_of plan choice)) ≡ true
        go true u = d
        go false u = kept (leb-false need spare u) ((feasible_means day plan feasibly).places choice (omega (arith, len)))

-- what is asked is of a day of at most 24 slots
asked-slots : (counts : Counts) (choice : ℕ) → enough_asked counts choice ≡ true → counts.slots ≤ 24
unfolding enough_asked
asked-slots counts choice t =
    leb-true _ _ (and_left (leb counts.slots 24) (leb counts.choosers 200 && (leb counts.choices 64 && ltb choice counts.choices)) t)

-- a feasible plan's place stays, where the fills are those of the choices before it
pub enough-keeps : (day : Day) (plan tables : List ℕ) → feasible day plan ≡ true → length plan ≡ day.counts.choices → TablesFilled day.counts day.maxs tables
    → day.counts.choices ≤ 64 → day.counts.choosers ≤ 200 → (choice : ℕ) (fills : List ℕ) (domain : ℕ) → choice < day.counts.choices
    → ((slot : ℕ) → get_or fills slot 0 ≡ sum_in day.maxs (take choice plan) slot)
    → has domain (place_number day.counts.slots (slot_of plan choice)) ≡ true
    → has (enough_places (entry_at tables) (weight_at tables) day.counts choice (get_or day.maxs choice 0) fills domain) (place_number day.counts.slots (slot_of plan choice)) ≡ true
unfolding enough_places
enough-keeps day plan tables f n filled few held choice fills domain inside sums d = go (enough_asked day.counts choice) refl
  where
    go : (b : Bool) → enough_asked day.counts choice ≡ b
        → has (cond b
        (enough_with (entry_at tables) day.counts.slots (choice + 1) (lacks_at day.counts.choosers day.counts.slots fills) (get_or day.maxs choice 0)
        (weight_after (weight_at tables) day.counts.choices (choice + 1)) domain)
        domain) (place_number day.counts.slots (slot_of plan choice)) ≡ true
    go true t = with_keeps day plan tables f n filled few held choice fills domain inside sums (asked-slots day.counts choice t) d
    go false t = d
