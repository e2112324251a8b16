-- The places of a choice, one after another, and whether the next choice may take one.
use mathlib.Core.Path.{◌≡◌, refl, sym, ap, ◌∙◌}
use mathlib.Core.Bool.{Bool, true, false, cond}
use mathlib.Core.List.{List, [], ◌∷◌}
use Prim.Native.Nat.{ℕ, zero, suc, ◌+◌, ◌-◌, ◌≤◌, ◌<◌}
use native.Mathlib.Decide.{ℕ_discrete}
use native.Mathlib.Nat.{sub-zero, pos_of_ne-zero}
use native.Mathlib.Numerals.{add-one}
use native.Mathlib.Omega.{arith}
use borrow.Author.Tests.{lt-ltb, le-ltb, le-leb, lt-leb, ne_eqb, ltb-true, leb-true}
use lib.Arith.{lt_of_le-ne}
use lib.Dec.{ltb, leb, eqb}
use lib.ListN.{length, get_or, set, length-set}
use lib.Seq.{get_or-set_same, get_or-set_other, set-set, set-get_or}
use Rattle.plan_check.specs.Day.{Day}
use Rattle.plan_check.specs.Feasible.{omission_allowed}
use Rattle.list_nodes.specs.Placements.{slots_from, places}
use Rattle.list_nodes.specs.steps.Walk.{places_from, place_of, place_fits, next_open, sums_with, sums_without}
use Rattle.list_nodes.specs.steps.Runs.{Walks, Open}

module _ (slots : ℕ) where
  pub places-start : places_from slots 0 ≡ places slots
  unfolding places_from places
  places-start = rw sub-zero

  -- the places from a slot on are the slot, and then the places from the next one on
  pub places-next : (slot : ℕ) → slot < slots → places_from slots slot ≡ slot ∷ places_from slots (slot + 1)
  unfolding places_from slots_from
  places-next slot h =
      let e : slots - slot ≡ suc (slots - suc slot) = omega arith in
      rw (add-one slot, e)

  -- omission comes last
  pub places-last : places_from slots slots ≡ 255 ∷ []
  unfolding places_from slots_from
  places-last =
      let e : slots - slots ≡ 0 = omega arith in
      rw e

module _ (slots choosers : ℕ) (mins optional sums : List ℕ) (choice : ℕ) where
  -- a slot fits if its sum stays within the headcount, and not otherwise
  pub slot-fits : (slot : ℕ) {amount : ℕ} → slot < slots → amount ≡ get_or mins choice 0 → get_or sums slot 0 + amount ≤ choosers
      → place_fits slots choosers mins optional sums choice slot ≡ true
  unfolding place_fits
  slot-fits slot h e f = rw (lt-ltb _ _ h, le-leb _ _ (rw e at f))

  pub slot-over : (slot : ℕ) {amount : ℕ} → slot < slots → amount ≡ get_or mins choice 0 → choosers < get_or sums slot 0 + amount
      → place_fits slots choosers mins optional sums choice slot ≡ false
  unfolding place_fits
  slot-over slot h e f = rw (lt-ltb _ _ h, lt-leb _ _ (rw e at f))

  -- omission fits an optional choice, and no other
  pub omission_fits : slots ≤ 24 → get_or optional choice 0 ≡ 1 → place_fits slots choosers mins optional sums choice 255 ≡ true
  unfolding place_fits omission_allowed
  omission_fits h e = rw (le-ltb 255 slots (omega arith), e)

  pub omission_out : slots ≤ 24 → (get_or optional choice 0 ≡ 1 → ⊥) → place_fits slots choosers mins optional sums choice 255 ≡ false
  unfolding place_fits omission_allowed
  omission_out h e = rw (le-ltb 255 slots (omega arith), ne_eqb _ _ e)

  -- the sums once the choice stands in a slot, or is omitted
  pub sums-slot : (slot : ℕ) {amount : ℕ} → slot < slots → amount ≡ get_or mins choice 0
      → sums_with slots mins sums choice slot ≡ set sums slot (get_or sums slot 0 + amount)
  unfolding sums_with
  sums-slot slot h e = rw (lt-ltb _ _ h, e)

  pub sums_omission : slots ≤ 24 → sums_with slots mins sums choice 255 ≡ sums
  unfolding sums_with
  sums_omission h = rw (le-ltb 255 slots (omega arith))

-- the walk's shape one choice further on
pub walks_next : {slots choosers choice : ℕ} {mins optional sums : List ℕ} → Walks slots choosers mins optional choice sums → (choice ≡ length mins → ⊥)
    → Walks slots choosers mins optional (choice + 1) sums
walks_next {choice = choice} {mins = mins} w n =
    let h : choice < length mins = lt_of_le-ne w.within n in
    record {
      few-choices = w.few-choices;
      few-slots = w.few-slots;
      few-choosers = w.few-choosers;
      flags = w.flags;
      within = omega arith;
      entries = w.entries;
      low = w.low;
    }

-- a slot's sum taken up, within the headcount, keeps the walk's shape
pub walks-slot : {slots choosers choice : ℕ} {mins optional sums : List ℕ} (slot v : ℕ)
    → Walks slots choosers mins optional choice sums → slot < slots → v ≤ choosers → Walks slots choosers mins optional choice (set sums slot v)
walks-slot {choosers = choosers} {sums = sums} slot v w h f =
    record {
      few-choices = w.few-choices;
      few-slots = w.few-slots;
      few-choosers = w.few-choosers;
      flags = w.flags;
      within = w.within;
      entries = simp length-set w.entries;
      low =
          λ s. elim (ℕ_discrete s slot) [
            | yes e ↦ rw (e, get_or-set_same sums slot v 0 (omega (arith, w.few-slots, w.entries))) f
            | no n ↦ rw (get_or-set_other sums slot s v 0 n) (w.low s)
          ];
    }

-- a slot's sum put back makes the sums as they were
pub sums-back : {sums sums' : List ℕ} (slot v : ℕ) → sums' ≡ set sums slot v → set sums' slot (get_or sums slot 0) ≡ sums
sums-back {sums} slot v e = rw (e, set-set) (set-get_or sums slot 0)

-- ---- by position: omission, or a slot

module _ (slots choosers : ℕ) (mins optional sums : List ℕ) (choice at : ℕ) where
  module _ (e : at ≡ slots) (few : slots ≤ 24) where
    place_omission : place_of slots at ≡ 255
    unfolding place_of
    place_omission = rw (le-ltb at slots (omega arith))

    pub may_omit : eqb (get_or optional choice 0) 1 ≡ place_fits slots choosers mins optional sums choice (place_of slots at)
    unfolding place_fits omission_allowed
    may_omit = rw (place_omission, le-ltb 255 slots (omega arith))

    pub put_omission : (plan : List ℕ) → set plan choice 255 ≡ set plan choice (place_of slots at)
    put_omission plan = rw place_omission

    pub with_omission : sums ≡ sums_with slots mins sums choice (place_of slots at)
    unfolding sums_with
    with_omission = rw (place_omission, le-ltb 255 slots (omega arith))

    pub without_omission : sums ≡ sums_without slots mins sums choice (place_of slots at)
    unfolding sums_without
    without_omission = rw (place_omission, le-ltb 255 slots (omega arith))

  module _ (h : at < slots) where
    place-slot : place_of slots at ≡ at
    unfolding place_of
    place-slot = rw (lt-ltb at slots h)

    pub put-slot : (plan : List ℕ) → set plan choice at ≡ set plan choice (place_of slots at)
    put-slot plan = rw place-slot

    module _ {amount : ℕ} (e : amount ≡ get_or mins choice 0) where
      pub may_stand : leb (get_or sums at 0 + amount) choosers ≡ place_fits slots choosers mins optional sums choice (place_of slots at)
      unfolding place_fits
      may_stand = rw (place-slot, lt-ltb at slots h, e)

      pub with_slot : set sums at (get_or sums at 0 + amount) ≡ sums_with slots mins sums choice (place_of slots at)
      unfolding sums_with
      with_slot = rw (place-slot, lt-ltb at slots h, e)

      pub without-slot : set sums at (get_or sums at 0 - amount) ≡ sums_without slots mins sums choice (place_of slots at)
      unfolding sums_without
      without-slot = rw (place-slot, lt-ltb at slots h, e)

-- ---- a choice that takes a place, whichever it is

module _ (choice at : ℕ) {slots choosers : ℕ} {mins optional sums : List ℕ} (w : Walks slots choosers mins optional (choice + 1) sums) where
  -- the sums with a choice at its place keep the walk's shape
  pub walks-taken : place_fits slots choosers mins optional sums choice (place_of slots at) ≡ true
      → Walks slots choosers mins optional (choice + 1) (sums_with slots mins sums choice (place_of slots at))
  unfolding place_fits sums_with
  walks-taken f = go (ltb (place_of slots at) slots) refl f
    where
      go : (b : Bool) → ltb (place_of slots at) slots ≡ b → cond b (leb (get_or sums (place_of slots at) 0 + get_or mins choice 0) choosers) (omission_allowed (place_of slots at) (get_or optional choice 0)) ≡ true
          → Walks slots choosers mins optional (choice + 1) (cond b (set sums (place_of slots at) (get_or sums (place_of slots at) 0 + get_or mins choice 0)) sums)
      go true t f = walks-slot (place_of slots at) (get_or sums (place_of slots at) 0 + get_or mins choice 0) w (ltb-true _ _ t) (leb-true _ _ f)
      go false t f = w

  -- the choice's minimum is in the sum of its slot
  pub sum-held : at < 24 → at < slots → get_or mins choice 0 ≤ get_or (sums_with slots mins sums choice (place_of slots at)) at 0
  unfolding sums_with place_of
  sum-held e h =
      rw (lt-ltb at slots h)
      (rw (lt-ltb at slots h) (rw (get_or-set_same sums at (get_or sums at 0 + get_or mins choice 0) 0 (omega (arith, w.entries))) (omega arith)))

  -- the sums are as before once the choice leaves its place
  pub sums-left : sums_without slots mins (sums_with slots mins sums choice (place_of slots at)) choice (place_of slots at) ≡ sums
  unfolding sums_with sums_without
  sums-left = go (ltb (place_of slots at) slots) refl
    where
      go : (b : Bool) → ltb (place_of slots at) slots ≡ b
          → cond b (set (cond b (set sums (place_of slots at) (get_or sums (place_of slots at) 0 + get_or mins choice 0)) sums) (place_of slots at) (get_or (cond b (set sums (place_of slots at) (get_or sums (place_of slots at) 0 + get_or mins choice 0)) sums) (place_of slots at) 0 - get_or mins choice 0)) (cond b (set sums (place_of slots at) (get_or sums (place_of slots at) 0 + get_or mins choice 0)) sums) ≡ sums
      go true t =
          let h : place_of slots at < slots = ltb-true _ _ t in
          let e : get_or sums (place_of slots at) 0 + get_or mins choice 0 - get_or mins choice 0 ≡ get_or sums (place_of slots at) 0 = omega arith in
          rw (get_or-set_same sums (place_of slots at) (get_or sums (place_of slots at) 0 + get_or mins choice 0) 0 (omega (arith, w.entries, w.few-slots)), e, set-set)
          (set-get_or sums (place_of slots at) 0)
      go false t = refl

-- ---- the next place that a choice may take

module _ (slots choosers : ℕ) (mins optional sums : List ℕ) (choice : ℕ) where
  -- of no places none is open
  pub open_none : {left : ℕ} → left ≡ 0 → 0 ≡ next_open slots choosers mins optional sums choice left
  unfolding next_open
  open_none e = rw e

  here-is : (left : ℕ) → (left ≡ 0 → ⊥) → place_fits slots choosers mins optional sums choice (place_of slots (slots + 1 - left)) ≡ true
      → left ≡ next_open slots choosers mins optional sums choice left
  unfolding next_open
  here-is zero n f = absurd (n refl)
  here-is (suc left) n f =
      let e : slots + 1 - suc left ≡ slots - left = omega arith in
      rw (rw e at f)

  after_is : (left : ℕ) → (left ≡ 0 → ⊥) → place_fits slots choosers mins optional sums choice (place_of slots (slots + 1 - left)) ≡ false
      → next_open slots choosers mins optional sums choice (left - 1) ≡ next_open slots choosers mins optional sums choice left
  unfolding next_open
  after_is zero n f = absurd (n refl)
  after_is (suc left) n f =
      let e : slots + 1 - suc left ≡ slots - left = omega arith in
      let k : suc left - 1 ≡ left = omega arith in
      rw (rw e at f, k)

  module _ (left : ℕ) (n : left ≡ 0 → ⊥) {place : ℕ} (p : place ≡ slots + 1 - left) {takes : Bool} (e : takes ≡ place_fits slots choosers mins optional sums choice (place_of slots place)) where
    fits-is : takes ≡ place_fits slots choosers mins optional sums choice (place_of slots (slots + 1 - left))
    fits-is = e ∙ ap (λ (k : ℕ). place_fits slots choosers mins optional sums choice (place_of slots k)) p

    -- the next open place is this one
    pub open_here : takes ≡ true → left ≡ next_open slots choosers mins optional sums choice left
    open_here t = here-is left n (sym fits-is ∙ t)

    -- the next open place is one after this
    pub open_after : takes ≡ false → next_open slots choosers mins optional sums choice (left - 1) ≡ next_open slots choosers mins optional sums choice left
    open_after f = after_is left n (sym fits-is ∙ f)

  -- from the next open place on no more places are left than were
  pub open_within : (left : ℕ) → next_open slots choosers mins optional sums choice left ≤ left
  unfolding next_open
  open_within zero = omega arith
  open_within (suc left) = go (place_fits slots choosers mins optional sums choice (place_of slots (slots - left))) (open_within left)
    where
      go : (b : Bool) → next_open slots choosers mins optional sums choice left ≤ left → cond b (suc left) (next_open slots choosers mins optional sums choice left) ≤ suc left
      go true h = omega arith
      go false h = omega arith

  -- the choice may take its next open place
  pub open_fits : (left : ℕ) → (next_open slots choosers mins optional sums choice left ≡ 0 → ⊥)
      → place_fits slots choosers mins optional sums choice (place_of slots (slots + 1 - next_open slots choosers mins optional sums choice left)) ≡ true
  unfolding next_open
  open_fits zero n = absurd (n refl)
  open_fits (suc left) n = go (place_fits slots choosers mins optional sums choice (place_of slots (slots - left))) refl (open_fits left) n
    where
      go : (b : Bool) → place_fits slots choosers mins optional sums choice (place_of slots (slots - left)) ≡ b
          → ((next_open slots choosers mins optional sums choice left ≡ 0 → ⊥) → place_fits slots choosers mins optional sums choice (place_of slots (slots + 1 - next_open slots choosers mins optional sums choice left)) ≡ true)
          → (cond b (suc left) (next_open slots choosers mins optional sums choice left) ≡ 0 → ⊥)
          → place_fits slots choosers mins optional sums choice (place_of slots (slots + 1 - cond b (suc left) (next_open slots choosers mins optional sums choice left))) ≡ true
      go true t ih n =
          let e : slots + 1 - suc left ≡ slots - left = omega arith in
          rw e t
      go false t ih n = ih n

pub open_next : (day : Day) (choice left : ℕ) (sums : List ℕ) {next : ℕ} → left ≤ day.counts.slots + 1
    → next ≡ next_open day.counts.slots day.counts.choosers day.mins day.optional sums choice left → (next ≡ 0 → ⊥) → Open day choice next sums
open_next day choice left sums {next} h e n =
    let w = open_within day.counts.slots day.counts.choosers day.mins day.optional sums choice left in
    record {
      some = pos_of_ne-zero n;
      few = omega (arith, w, e);
      fits = rw e (open_fits day.counts.slots day.counts.choosers day.mins day.optional sums choice left (λ z. n (e ∙ z)));
    }
