-- The open places as the code comes by them: a law for each way through it.
use mathlib.Core.Path.{◌≡◌, refl, sym, ap, ◌∙◌}
use mathlib.Core.Bool.{Bool, true, false, ◌&&◌, cond}
use mathlib.Core.List.{List}
use Prim.Native.Nat.{ℕ, suc, ◌+◌, ◌-◌, ◌*◌, ◌≤◌, ◌<◌}
use native.Mathlib.Decide.{ℕ_discrete}
use native.Mathlib.Nat.{zero-add}
use native.Mathlib.Omega.{arith}
use borrow.Author.Tests.{lt-ltb, le-ltb, le-leb, lt-leb, leb-true, leb-false, ltb-true, eq-eqb, ne_eqb}
use lib.Dec.{eqb, ltb, leb}
use lib.ListN.{get_or}
use Rattle.base_lists.proofs.Below.{and_left, and_right}
use Rattle.day_rows.specs.declared.check.Counts.{Counts}
use Rattle.base_choice_sets.specs.Sets.{has, set_of, with_choice}
use Rattle.base_choice_sets.proofs.SetLaws.{has-set, has-set-past, set_ext, set_skip, set-empty, set-step}
use Rattle.list_nodes.specs.steps.Walk.{place_of, place_fits}
use Rattle.list_nodes.proofs.PlaceLaws.{may_stand, may_omit}
use Rattle.list_tables.specs.steps.Weights.{sum_from}
use Rattle.list_tables.specs.steps.Tables.{entry_at}
use Rattle.list_tables.proofs.TableLaws.{entry_in}
use Rattle.list_rule_tables.specs.steps.Enough.{lacks_at, need_of, weight_after, slot_kept, enough_with, enough_asked, enough_places}
use Rattle.list_rule_tables.proofs.EnoughPlaces.{lack-at, need-step}
use Rattle.list_look.specs.steps.Slots.{slot_fits, fits_at, fitting, leaves_enough, slot_open}
use Rattle.list_look.specs.steps.Open.{open_at, open_places}

-- where an entry of table 1 stands in the tables
pub heads-entry : (tables : List ℕ) (from lack : ℕ) → from ≤ 64 → lack ≤ 200 → get_or tables ((65 + from) * 201 + lack) 0 ≡ entry_at tables 1 from lack
heads-entry tables from lack f l = entry_in tables 1 from lack (omega arith) (omega arith) (omega arith)

-- what the choices from one on weigh: with one choice more, and with none left
pub after-step : (weight : ℕ → ℕ → ℕ) (choices choice spare part whole : ℕ) → choice < choices → part ≡ weight 1 choice
    → spare + weight_after weight choices choice ≡ whole → spare + part + weight_after weight choices (choice + 1) ≡ whole
unfolding weight_after sum_from
after-step weight choices choice spare part whole h p e =
    let k : choices - choice ≡ suc (choices - (choice + 1)) = omega arith in
    let s : suc choice ≡ choice + 1 = omega arith in
    let f = rw (k, s) at e in
    omega (arith, f, p)

pub after-end : (weight : ℕ → ℕ → ℕ) (choices choice spare whole : ℕ) → choices ≤ choice → spare + weight_after weight choices choice ≡ whole → spare ≡ whole
unfolding weight_after sum_from
after-end weight choices choice spare whole h e =
    let k : choices - choice ≡ 0 = omega arith in
    let f = rw k at e in
    omega (arith, f)

-- whether the tables hold the day and the choice is one of it
module _ (counts : Counts) (choice : ℕ) where
  module _ (s : counts.slots ≤ 24) where
    pub asked-choosers : 200 < counts.choosers → false ≡ enough_asked counts choice
    unfolding enough_asked
    asked-choosers h = rw (le-leb _ _ s, lt-leb _ _ h)

    pub asked-choices : counts.choosers ≤ 200 → 64 < counts.choices → false ≡ enough_asked counts choice
    unfolding enough_asked
    asked-choices h c = rw (le-leb _ _ s, le-leb _ _ h, lt-leb _ _ c)

    pub asked-choice : counts.choosers ≤ 200 → counts.choices ≤ 64 → ltb choice counts.choices ≡ enough_asked counts choice
    unfolding enough_asked
    asked-choice h c = rw (le-leb _ _ s, le-leb _ _ h, le-leb _ _ c)

  -- a day that the tables hold has at most 200 choosers and 64 choices
  pub asked_means : enough_asked counts choice ≡ true → (counts.choosers ≤ 200) × ((counts.choices ≤ 64) × (choice < counts.choices))
  unfolding enough_asked
  asked_means t =
      let a = and_right (leb counts.slots 24) (leb counts.choosers 200 && (leb counts.choices 64 && ltb choice counts.choices)) t in
      let b = and_right (leb counts.choosers 200) (leb counts.choices 64 && ltb choice counts.choices) a in (
        leb-true _ _ (and_left (leb counts.choosers 200) (leb counts.choices 64 && ltb choice counts.choices) a),
        (leb-true _ _ (and_left (leb counts.choices 64) (ltb choice counts.choices) b), ltb-true _ _ (and_right (leb counts.choices 64) (ltb choice counts.choices) b)),
      )

-- what the slots' lacks weigh, with one slot more
pub need-more : (entry : ℕ → ℕ → ℕ → ℕ) (slots choosers from : ℕ) (fills : List ℕ) (slot need lack part : ℕ) → slots ≤ 24 → slot < slots
    → need ≡ need_of entry slot 1 from (lacks_at choosers slots fills) → lack ≡ choosers - get_or fills slot 0 → part ≡ entry 1 from lack
    → need + part ≡ need_of entry (slot + 1) 1 from (lacks_at choosers slots fills)
need-more entry slots choosers from fills slot need lack part few hs n l p =
    need-step entry 1 from (lacks_at choosers slots fills) slot need part n
    (p ∙ ap (λ (x : ℕ). entry 1 from x) (l ∙ sym (lack-at choosers slots fills few slot hs)))

-- a test that fails with its second part
and_none : (a : Bool) → (a && false) ≡ false
and_none true = refl
and_none false = refl

-- a test whose second part holds is its first
and_all : (a : Bool) → (a && true) ≡ a
and_all true = refl
and_all false = refl

-- a test of three parts, either way bracketed
and_last : (a b c : Bool) → ((a && b) && c) ≡ (a && (b && c))
and_last true b c = refl
and_last false b c = refl

-- a sum leaves room for a minimum exactly if the two are within the headcount
room_for : (sum least most : ℕ) → least ≤ most → leb sum (most - least) ≡ leb (sum + least) most
room_for sum least most h = go (leb sum (most - least)) refl
  where
    go : (b : Bool) → leb sum (most - least) ≡ b → leb sum (most - least) ≡ leb (sum + least) most
    go true t = t ∙ sym (le-leb (sum + least) most (omega (arith, leb-true sum (most - least) t)))
    go false t = t ∙ sym (lt-leb (sum + least) most (omega (arith, leb-false sum (most - least) t)))

-- whether a slot fits
module _ (choosers least : ℕ) (sums : List ℕ) (domain : ℕ) where
  pub fits_absent : (slot : ℕ) {inside : Bool} → inside ≡ has domain slot → inside ≡ false → false ≡ slot_fits choosers least sums domain slot
  unfolding slot_fits
  fits_absent slot e t =
      sym (ap (λ (b : Bool). leb (get_or sums slot 0 + least) choosers && b) (sym e ∙ t) ∙ and_none (leb (get_or sums slot 0 + least) choosers))

  pub fits-room : (slot : ℕ) {inside : Bool} → least ≤ choosers → inside ≡ has domain slot → inside ≡ true
      → leb (get_or sums slot 0) (choosers - least) ≡ slot_fits choosers least sums domain slot
  unfolding slot_fits
  fits-room slot h e t =
      room_for (get_or sums slot 0) least choosers h
      ∙ sym (ap (λ (b : Bool). leb (get_or sums slot 0 + least) choosers && b) (sym e ∙ t) ∙ and_all (leb (get_or sums slot 0 + least) choosers))

  -- no slot has room for a minimum past the headcount
  pub fits-none : choosers < least → (slot : ℕ) → slot_fits choosers least sums domain slot ≡ false
  unfolding slot_fits
  fits-none h slot = rw (lt-leb (get_or sums slot 0 + least) choosers (omega arith))

  pub none-fit : (slots : ℕ) → choosers < least → 0 ≡ set_of slots (slot_fits choosers least sums domain)
  none-fit slots h = sym (set-empty slots (slot_fits choosers least sums domain) λ slot l. fits-none h slot)

  -- the places that fit: the slots, and then omission
  module _ (slots flag : ℕ) where
    fits-slot : (slot : ℕ) → slot < slots → slot_fits choosers least sums domain slot ≡ fits_at slots choosers least flag sums domain slot
    unfolding slot_fits fits_at
    fits-slot slot h = rw (lt-ltb slot slots h)

    fits_omission : fits_at slots choosers least flag sums domain slots ≡ (eqb flag 1 && has domain slots)
    unfolding fits_at
    fits_omission = rw (le-ltb slots slots (omega arith))

    module _ {found : ℕ} (f : found ≡ set_of slots (slot_fits choosers least sums domain)) where
      found-fit : found ≡ set_of slots (fits_at slots choosers least flag sums domain)
      found-fit = f ∙ set_ext slots (slot_fits choosers least sums domain) (fits_at slots choosers least flag sums domain) fits-slot

      pub fitting-slots : (flag ≡ 1 → ⊥) → found ≡ fitting slots choosers least flag sums domain
      unfolding fitting
      fitting-slots n =
          found-fit
          ∙ sym (set_skip slots (fits_at slots choosers least flag sums domain) (fits_omission ∙ ap (λ (b : Bool). b && has domain slots) (ne_eqb _ _ n)))

      pub fitting-all : {inside : Bool} {result : ℕ} → slots ≤ 24 → flag ≡ 1 → inside ≡ has domain slots → result ≡ cond inside (with_choice found slots) found
          → result ≡ fitting slots choosers least flag sums domain
      unfolding fitting
      fitting-all {inside} {result} few e i r =
          set-step slots (fits_at slots choosers least flag sums domain) found result inside (omega arith) found-fit
          (i ∙ sym (fits_omission ∙ ap (λ (b : Bool). b && has domain slots) (eq-eqb _ _ e))) r

-- whether a slot is open to a choice that is needed
module _ (entry : ℕ → ℕ → ℕ → ℕ) (choosers from : ℕ) (fills : List ℕ) (most need spare : ℕ) where
  pub leaves_by : (slot lack less rest whole : ℕ) → lack ≡ choosers - get_or fills slot 0 → less ≡ lack - most → rest ≡ entry 1 from less → whole ≡ entry 1 from lack
      → leb (rest + need) (spare + whole) ≡ leaves_enough entry choosers from fills most need spare slot
  unfolding leaves_enough
  leaves_by slot lack less rest whole k l r w = rw (r, w, l, k)

  module _ (least : ℕ) (sums : List ℕ) (domain : ℕ) where
    -- a slot that lacks nothing doesn't need the choice
    pub open_filled : (slot : ℕ) → spare < need → choosers ≤ get_or fills slot 0 → false ≡ slot_open entry choosers from fills least sums most need spare domain slot
    unfolding slot_open leaves_enough
    open_filled slot t h =
        let z : choosers - get_or fills slot 0 ≡ 0 = omega arith in
        let y : 0 - most ≡ 0 = omega arith in
        sym (rw (z, y, lt-leb (entry 1 from 0 + need) (spare + entry 1 from 0) (omega arith)) (and_none (slot_fits choosers least sums domain slot)))

    pub open_full : (slot : ℕ) {fits : Bool} → fits ≡ slot_fits choosers least sums domain slot → fits ≡ false
        → false ≡ slot_open entry choosers from fills least sums most need spare domain slot
    unfolding slot_open
    open_full slot e t = rw (sym e ∙ t)

    pub open_fitting : (slot : ℕ) {fits leaves : Bool} → fits ≡ slot_fits choosers least sums domain slot → fits ≡ true
        → leaves ≡ leaves_enough entry choosers from fills most need spare slot → leaves ≡ slot_open entry choosers from fills least sums most need spare domain slot
    unfolding slot_open
    open_fitting slot e t l = rw (sym e ∙ t) l

    pub none_open : (slots : ℕ) → choosers < least → 0 ≡ set_of slots (slot_open entry choosers from fills least sums most need spare domain)
    unfolding slot_open
    none_open slots h =
        sym
        (set-empty slots (slot_open entry choosers from fills least sums most need spare domain) λ slot l.
        rw (fits-none choosers least sums domain h slot))

    -- the slots that are open are the places that fit of those that leave enough
    open_slot : (slots : ℕ) → slots ≤ 24 → (flag slot : ℕ) → slot < slots
        → slot_open entry choosers from fills least sums most need spare domain slot
        ≡ fits_at slots choosers least flag sums (set_of slots (slot_kept entry 1 from (lacks_at choosers slots fills) 0 most need spare domain)) slot
    unfolding slot_open slot_fits leaves_enough fits_at slot_kept
    open_slot slots few flag slot h =
        rw (lt-ltb slot slots h, has-set slots (slot_kept entry 1 from (lacks_at choosers slots fills) 0 most need spare domain) slot h, lack-at choosers slots fills few slot h, zero-add (entry 1 from (choosers - get_or fills slot 0 - most)))
        (and_last (leb (get_or sums slot 0 + least) choosers) (has domain slot) _)

    open_omission : (slots flag : ℕ) → fits_at slots choosers least flag sums (set_of slots (slot_kept entry 1 from (lacks_at choosers slots fills) 0 most need spare domain)) slots ≡ false
    unfolding fits_at
    open_omission slots flag =
        ap (λ (b : Bool). cond (ltb slots slots) (leb (get_or sums slots 0 + least) choosers) (eqb flag 1) && b)
        (has-set-past slots (slot_kept entry 1 from (lacks_at choosers slots fills) 0 most need spare domain) slots (omega arith))
        ∙ and_none (cond (ltb slots slots) (leb (get_or sums slots 0 + least) choosers) (eqb flag 1))

    pub open_tight : (slots flag result : ℕ) → slots ≤ 24 → need ≡ need_of entry slots 1 from (lacks_at choosers slots fills) → spare < need
        → result ≡ set_of slots (slot_open entry choosers from fills least sums most need spare domain)
        → result ≡ fitting slots choosers least flag sums (enough_with entry slots from (lacks_at choosers slots fills) most spare domain)
    unfolding fitting enough_with
    open_tight slots flag result few n h r =
        let q : ℕ → Bool = fits_at slots choosers least flag sums (set_of slots (slot_kept entry 1 from (lacks_at choosers slots fills) 0 most need spare domain)) in
        rw (sym n, lt-leb _ _ h)
        (r ∙ set_ext slots (slot_open entry choosers from fills least sums most need spare domain) q (open_slot slots few flag)
        ∙ sym (set_skip slots q (open_omission slots flag)))

    pub open_loose : (slots flag result : ℕ) → need ≡ need_of entry slots 1 from (lacks_at choosers slots fills) → need ≤ spare
        → result ≡ fitting slots choosers least flag sums domain
        → result ≡ fitting slots choosers least flag sums (enough_with entry slots from (lacks_at choosers slots fills) most spare domain)
    unfolding enough_with
    open_loose slots flag result n h r = rw (sym n, le-leb _ _ h) r

-- the ways through open_places
module _ (entry : ℕ → ℕ → ℕ → ℕ) (weight : ℕ → ℕ → ℕ) (counts : Counts) (mins maxs optional : List ℕ) (choice : ℕ) (sums fills : List ℕ) (domain : ℕ) where
  pub open_many : 24 < counts.slots → 0 ≡ open_places entry weight counts mins maxs optional choice sums fills domain
  unfolding open_places
  open_many h = rw (lt-leb _ _ h)

  module _ (few : counts.slots ≤ 24) (least flag : ℕ) (l : least ≡ get_or mins choice 0) (g : flag ≡ get_or optional choice 0) where
    -- a place fits by the choice's own numbers
    place-fits : (other at : ℕ) → at < counts.slots + 1
        → fits_at counts.slots counts.choosers least flag sums other at
        ≡ (place_fits counts.slots counts.choosers mins optional sums choice (place_of counts.slots at) && has other at)
    unfolding fits_at
    place-fits other at h = ap (λ (b : Bool). b && has other at) (go (ℕ_discrete at counts.slots))
      where
        go : Dec (at ≡ counts.slots)
            → cond (ltb at counts.slots) (leb (get_or sums at 0 + least) counts.choosers) (eqb flag 1)
            ≡ place_fits counts.slots counts.choosers mins optional sums choice (place_of counts.slots at)
        go (yes e) =
            ap (λ (b : Bool). cond b (leb (get_or sums at 0 + least) counts.choosers) (eqb flag 1)) (le-ltb at counts.slots (omega (arith, e)))
            ∙ ap (λ (x : ℕ). eqb x 1) g ∙ may_omit counts.slots counts.choosers mins optional sums choice at e few
        go (no n) =
            ap (λ (b : Bool). cond b (leb (get_or sums at 0 + least) counts.choosers) (eqb flag 1)) (lt-ltb at counts.slots (omega (arith, n)))
            ∙ may_stand counts.slots counts.choosers mins optional sums choice at (omega (arith, n)) l

    -- the open places are those that fit of those that leave enough
    open_fit : fitting counts.slots counts.choosers least flag sums (enough_places entry weight counts choice (get_or maxs choice 0) fills domain)
        ≡ open_places entry weight counts mins maxs optional choice sums fills domain
    unfolding open_places fitting open_at
    open_fit =
        rw (le-leb _ _ few)
        (set_ext (counts.slots + 1) (fits_at counts.slots counts.choosers least flag sums (enough_places entry weight counts choice (get_or maxs choice 0) fills domain))
        (open_at entry weight counts mins maxs optional choice sums fills domain) (place-fits (enough_places entry weight counts choice (get_or maxs choice 0) fills domain)))

    pub open_unasked : {asked : Bool} (result : ℕ) → asked ≡ enough_asked counts choice → asked ≡ false
        → result ≡ fitting counts.slots counts.choosers least flag sums domain → result ≡ open_places entry weight counts mins maxs optional choice sums fills domain
    unfolding enough_places
    open_unasked result a t r =
        r
        ∙ ap (λ (b : Bool). fitting counts.slots counts.choosers least flag sums (cond b (enough_with entry counts.slots (choice + 1) (lacks_at counts.choosers counts.slots fills) (get_or maxs choice 0) (weight_after weight counts.choices (choice + 1)) domain) domain)) (sym (sym a ∙ t))
        ∙ open_fit

    pub open_asked : {asked : Bool} (most spare result : ℕ) → asked ≡ enough_asked counts choice → asked ≡ true → most ≡ get_or maxs choice 0
        → spare ≡ weight_after weight counts.choices (choice + 1)
        → result
        ≡ fitting counts.slots counts.choosers least flag sums (enough_with entry counts.slots (choice + 1) (lacks_at counts.choosers counts.slots fills) most spare domain)
        → result ≡ open_places entry weight counts mins maxs optional choice sums fills domain
    unfolding enough_places
    open_asked most spare result a t m p r =
        r
        ∙ ap (λ (x : ℕ). fitting counts.slots counts.choosers least flag sums (enough_with entry counts.slots (choice + 1) (lacks_at counts.choosers counts.slots fills) x spare domain)) m
        ∙ ap (λ (x : ℕ). fitting counts.slots counts.choosers least flag sums (enough_with entry counts.slots (choice + 1) (lacks_at counts.choosers counts.slots fills) (get_or maxs choice 0) x domain)) p
        ∙ ap (λ (b : Bool). fitting counts.slots counts.choosers least flag sums (cond b (enough_with entry counts.slots (choice + 1) (lacks_at counts.choosers counts.slots fills) (get_or maxs choice 0) (weight_after weight counts.choices (choice + 1)) domain) domain)) (sym (sym a ∙ t))
        ∙ open_fit
