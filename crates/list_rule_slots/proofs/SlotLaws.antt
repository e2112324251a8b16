-- What the sums of every slot leave: a feasible plan within the domains stays within what is left.
use mathlib.Core.Path.{◌≡◌, refl, sym, ◌∙◌}
use mathlib.Core.Bool.{Bool, true, false, ◌&&◌, cond}
use mathlib.Core.List.{List}
use Prim.Native.Nat.{ℕ, ◌+◌, ◌≤◌, ◌<◌}
use native.Mathlib.Omega.{arith}
use borrow.Author.Tests.{le-leb, leb-true}
use lib.Dec.{eqb, leb}
use lib.ListN.{length, get_or}
use Rattle.base_lists.specs.Below.{all_below}
use Rattle.base_lists.proofs.Below.{and_both, and_left, and_right, all-each, each_all}
use Rattle.day_rows.specs.declared.check.Counts.{Counts}
use Rattle.plan_check.specs.Day.{Day}
use Rattle.plan_check.specs.Plan.{slot_of, stands_in, sum_up_to, sum_in}
use Rattle.plan_check.specs.Rows.{keeps_rows}
use Rattle.plan_check.specs.Feasible.{places_allowed, slot_fits, feasible}
use Rattle.base_choice_sets.specs.Sets.{has}
use Rattle.base_choice_sets.proofs.SetLaws.{has-set}
use Rattle.list_domains.specs.steps.Domains.{place_number, Within, only_place}
use Rattle.list_domains.proofs.DomainLaws.{number_le, number-stands, within-at, each-length, each_within}
use Rattle.list_rule_slots.specs.steps.SlotRules.{certain, possible, minimum_fits, maximum_spared, slot_allows, slots_leave, in_order, sums_leave, each_left, amounts_fit, slots_rule}
use Rattle.list_rule_slots.proofs.StandLaws.{sum-all, sum-in, sum-out, only_stands, stands-has}

-- ---- one slot's sums

module _ (slots slot : ℕ) (amounts plan domains : List ℕ) (few : slots ≤ 24) (lo : slot < slots) (w : Within slots plan domains) where
  -- what must stand in the slot is no more than the slot's sum, and what may is no less
  certain-all : certain (length plan) amounts domains slot ≤ sum_in amounts plan slot
  unfolding certain sum_in sum_up_to
  certain-all =
      sum-all (length plan) (λ i. get_or amounts i 0) (λ i. eqb (get_or domains i 0) (only_place slot)) (λ i. stands_in plan i slot)
      (only_stands slots slot plan domains few lo w)

  possible-all : sum_in amounts plan slot ≤ possible (length plan) amounts domains slot
  unfolding possible sum_in sum_up_to
  possible-all =
      sum-all (length plan) (λ i. get_or amounts i 0) (λ i. stands_in plan i slot) (λ i. has (get_or domains i 0) slot)
      (stands-has slots slot plan domains few lo w)

  module _ (choice : ℕ) (l : choice < length plan) where
    -- a choice that stands in the slot: what must stand there, and its own amount,
    -- are no more than the slot's sum
    certain_le : stands_in plan choice slot ≡ true
        → certain (length plan) amounts domains slot + cond (eqb (get_or domains choice 0) (only_place slot)) 0 (get_or amounts choice 0) ≤ sum_in amounts plan slot
    unfolding certain sum_in sum_up_to
    certain_le t =
        sum-in (length plan) (λ i. get_or amounts i 0) (λ i. eqb (get_or domains i 0) (only_place slot)) (λ i. stands_in plan i slot)
        (only_stands slots slot plan domains few lo w) choice l t

    -- a choice that stands elsewhere: what may stand in the slot is no less than the slot's sum, and its own
    -- amount if it might have stood there
    possible_ge : stands_in plan choice slot ≡ false
        → sum_in amounts plan slot + cond (has (get_or domains choice 0) slot) (get_or amounts choice 0) 0 ≤ possible (length plan) amounts domains slot
    unfolding possible sum_in sum_up_to
    possible_ge t =
        sum-out (length plan) (λ i. get_or amounts i 0) (λ i. stands_in plan i slot) (λ i. has (get_or domains i 0) slot)
        (stands-has slots slot plan domains few lo w) choice l t

-- ---- no domain is added or lost

pub slots_length : (counts : Counts) (mins maxs domains : List ℕ) → length (slots_rule counts mins maxs domains) ≡ length domains
unfolding slots_rule each_left
slots_length counts mins maxs domains = go (amounts_fit counts mins maxs)
  where
    go : (b : Bool)
        → length
        (cond b (each_left counts mins maxs (certain counts.choices mins domains) (possible counts.choices maxs domains) domains) domains)
        ≡ length domains
    go true = each-length counts.choices _ domains
    go false = refl

-- ---- what the slots leave

-- a sum between the two
fits-between : (a b c : ℕ) → a ≤ b → b ≤ c → leb a c ≡ true
fits-between a b c h k = le-leb a c (omega arith)

adds_between : (a b c d : ℕ) → a ≤ b → b + d ≤ c → leb (a + d) c ≡ true
adds_between a b c d h k = le-leb (a + d) c (omega arith)

module _ (counts : Counts) (mins maxs plan domains : List ℕ) (few : counts.slots ≤ 24) (w : Within counts.slots plan domains)
    (f : all_below counts.slots (slot_fits counts.choosers mins maxs plan) ≡ true) where
  -- the plan's own sums
  fits-at : (slot : ℕ) → slot < counts.slots → (sum_in mins plan slot ≤ counts.choosers) × (counts.choosers ≤ sum_in maxs plan slot)
  unfolding slot_fits
  fits-at slot lo =
      let t = all-each counts.slots (slot_fits counts.choosers mins maxs plan) f slot lo in
      (leb-true _ _ (and_left (leb (sum_in mins plan slot) counts.choosers) (leb counts.choosers (sum_in maxs plan slot)) t), leb-true _ _ (and_right (leb (sum_in mins plan slot) counts.choosers) (leb counts.choosers (sum_in maxs plan slot)) t))

  -- every slot's sums are in order
  sums-ordered : in_order counts (certain (length plan) mins domains) (possible (length plan) maxs domains) ≡ true
  unfolding in_order
  sums-ordered =
      each_all counts.slots _ λ slot lo.
      and_both _ _
      (fits-between _ _ _ (certain-all counts.slots slot mins plan domains few lo w) (fits-at slot lo).0)
      (fits-between _ _ _ (fits-at slot lo).1 (possible-all counts.slots slot maxs plan domains few lo w))

  module _ (choice : ℕ) (l : choice < length plan) where
    -- every slot allows the plan's place of a choice
    place-allowed : (slot : ℕ) → slot < counts.slots
        → slot_allows counts.choosers (certain (length plan) mins domains slot) (possible (length plan) maxs domains slot) (get_or mins choice 0) (get_or maxs choice 0) (get_or domains choice 0)
        (place_number counts.slots (slot_of plan choice)) slot ≡ true
    unfolding slot_allows minimum_fits maximum_spared
    place-allowed slot lo = go (eqb (place_number counts.slots (slot_of plan choice)) slot) refl
      where
        s : stands_in plan choice slot ≡ eqb (place_number counts.slots (slot_of plan choice)) slot
        s = sym (number-stands counts.slots plan choice slot (omega arith) lo)

        go : (b : Bool) → eqb (place_number counts.slots (slot_of plan choice)) slot ≡ b
            → cond b
            (leb (certain (length plan) mins domains slot + cond (eqb (get_or domains choice 0) (only_place slot)) 0 (get_or mins choice 0)) counts.choosers)
            (leb (counts.choosers + cond (has (get_or domains choice 0) slot) (get_or maxs choice 0) 0) (possible (length plan) maxs domains slot))
            ≡ true
        go true t = fits-between _ _ _ (certain_le counts.slots slot mins plan domains few lo w choice l (s ∙ t)) (fits-at slot lo).0
        go false t = adds_between _ _ _ _ (fits-at slot lo).1 (possible_ge counts.slots slot maxs plan domains few lo w choice l (s ∙ t))

    -- the plan's place of a choice is left by every slot
    place-left : has (sums_leave counts (certain (length plan) mins domains) (possible (length plan) maxs domains) (get_or mins choice 0) (get_or maxs choice 0) (get_or domains choice 0))
        (place_number counts.slots (slot_of plan choice)) ≡ true
    unfolding sums_leave slots_leave
    place-left =
        rw sums-ordered
        (has-set 64 _ (place_number counts.slots (slot_of plan choice)) (omega (arith, number_le counts.slots (slot_of plan choice)))
        ∙ and_both _ _ (within-at counts.slots plan domains w choice l) (each_all counts.slots _ place-allowed))

  -- what the sums leave
  left-within : length plan ≡ counts.choices → counts.choices ≤ length domains
      → Within counts.slots plan (each_left counts mins maxs (certain counts.choices mins domains) (possible counts.choices maxs domains) domains)
  unfolding each_left
  left-within size room =
      each_within counts.slots plan domains w counts.choices _ room
      λ choice l m t. rw size at (place-left choice m)

-- ---- the rule

-- what a day's shape says of its counts and lists
module _ (counts : Counts) (mins maxs : List ℕ) where
  shape : amounts_fit counts mins maxs ≡ true → (counts.choices ≤ 64) × (counts.slots ≤ 24)
  unfolding amounts_fit
  shape h =
      let t = and_left (leb counts.choices 64 && leb counts.slots 24 && eqb (length mins) counts.choices) (eqb (length maxs) counts.choices) h in
      let u = and_left (leb counts.choices 64 && leb counts.slots 24) (eqb (length mins) counts.choices) t in
      (leb-true _ _ (and_left (leb counts.choices 64) (leb counts.slots 24) u), leb-true _ _ (and_right (leb counts.choices 64) (leb counts.slots 24) u))

-- a feasible plan within the domains stays within what the slots leave
pub slots-within : (day : Day) (plan domains : List ℕ) → feasible day plan ≡ true → length plan ≡ day.counts.choices → length domains ≡ 64
    → Within day.counts.slots plan domains
    → Within day.counts.slots plan (slots_rule day.counts day.mins day.maxs domains)
unfolding slots_rule feasible
slots-within day plan domains f size n w = go (amounts_fit day.counts day.mins day.maxs) refl
  where
    sums : all_below day.counts.slots (slot_fits day.counts.choosers day.mins day.maxs plan) ≡ true
    sums =
        and_right (places_allowed day.counts.slots day.optional plan)
        (all_below day.counts.slots (slot_fits day.counts.choosers day.mins day.maxs plan))
        (and_left _ (keeps_rows plan day.rows) f)

    go : (b : Bool) → amounts_fit day.counts day.mins day.maxs ≡ b
        → Within day.counts.slots plan
        (cond b
        (each_left day.counts day.mins day.maxs (certain day.counts.choices day.mins domains)
        (possible day.counts.choices day.maxs domains) domains)
        domains)
    go true t =
        left-within day.counts day.mins day.maxs plan domains (shape _ _ _ t).1 w sums size (omega (arith, (shape _ _ _ t).0))
    go false t = w
