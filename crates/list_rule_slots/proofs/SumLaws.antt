-- Every slot's sums in one pass, and what they leave of a domain, over plain variables.
use mathlib.Core.Path.{◌≡◌, refl, sym, ◌∙◌, ap, ap₂}
use mathlib.Core.Bool.{Bool, true, false, ◌&&◌, cond, false≢true}
use mathlib.Core.List.{List}
use Prim.Native.Nat.{ℕ, zero, suc, ◌+◌, ◌*◌, ◌/◌, ◌^◌, ◌≤◌, ◌<◌}
use native.Mathlib.Decide.{ℕ_discrete}
use native.Mathlib.Numerals.{add-one}
use native.Mathlib.Omega.{arith}
use borrow.Author.Tests.{le-leb, leb-true, lt-ltb, eq-eqb, ne_eqb, eqb-true}
use lib.Count.{count_trailing_zeros}
use lib.Dec.{eqb, leb}
use lib.ListN.{length, get_or, set, replicate, length-replicate, get_or-replicate}
use lib.Seq.{set-get_or}
use Rattle.base_lists.specs.Below.{one, all_below, count_below}
use Rattle.base_lists.proofs.Below.{and_left, and_right, all-each, one-fails}
use Rattle.day_rows.specs.declared.check.Counts.{Counts}
use Rattle.base_choice_sets.specs.Sets.{has, set_of, size_of}
use Rattle.base_choice_sets.proofs.SetLaws.{same_test, has-set, set_ext, set_back, size-set}
use Rattle.list_domains.specs.steps.Domains.{only_place, kept_places, settled, lowest_from, lowest_place, each_below}
use Rattle.list_domains.proofs.DomainLaws.{only_has, settled-one, each-length, each_at, each_same}
use Rattle.list_domains.proofs.LowestLaws.{trailing_from, lowest-has, lowest_le, lowest_only}
use Rattle.list_rule_slots.specs.steps.SlotRules.{certain, possible, minimum_fits, maximum_spared, slot_allows, slots_leave, in_order, sums_leave, each_left}
use Rattle.list_rule_slots.specs.steps.Sums.{NextIn, added_to, Small, SumsOf}
use Rattle.list_rule_slots.proofs.StepLaws.{certain-more, possible-more, certain-none, possible-none, each-later, each_more}

-- ---- the next slot of a set

module _ (slots set from place : ℕ) (few : slots ≤ 24) (p : place ≡ from + count_trailing_zeros 64 (set / 2 ^ from)) where
  -- the next slot is the lowest from there on
  low : place ≡ lowest_from from 64 set
  low = p ∙ trailing_from from 64 set

  none_before : (slot : ℕ) → from ≤ slot → slot < place → slot < slots → has set slot ≡ false
  none_before slot h l u = go (has set slot) refl
    where
      go : (b : Bool) → has set slot ≡ b → b ≡ false
      go true t = absurd (omega (arith, low, l, lowest_le from 64 set slot h (omega (arith, few, u)) t))
      go false t = refl

  pub next-none : from ≤ slots → slots ≤ place → NextIn slots set from slots
  next-none f h =
      record {
        after = f;
        under = omega arith;
        none = λ slot l u. none_before slot l (omega (arith, u, h)) u;
        found = λ u. absurd (omega arith);
      }

  pub next-found : place < slots → NextIn slots set from place
  next-found h =
      record {
        after = omega (arith, p);
        under = omega (arith, h);
        none = λ slot l u. none_before slot l u (omega (arith, u, h));
        found = λ u. ap (has set) low ∙ lowest-has from 64 set (omega (arith, low, h, few));
      }

-- ---- one place left

-- a test that fails of every number counts none
count_none : (n : ℕ) (p : ℕ → Bool) → ((i : ℕ) → i < n → p i ≡ false) → count_below n p ≡ 0
unfolding count_below one
count_none zero p h = refl
count_none (suc n) p h = rw (count_none n p (λ i l. h i (omega arith)), h n (omega arith))

-- at most one number below a bound is a given place
count_only : (n place : ℕ) → count_below n (λ p. eqb p place) ≤ 1
unfolding count_below one
count_only zero place = omega arith
count_only (suc n) place = go (ℕ_discrete n place) (count_only n place)
  where
    go : Dec (n ≡ place) → count_below n (λ p. eqb p place) ≤ 1 → count_below n (λ p. eqb p place) + one (eqb n place) ≤ 1
    go (yes e) ih =
        rw (count_none n (λ p. eqb p place) (λ i l. ne_eqb i place (λ z. omega (arith, z, e, l))), eq-eqb n place e) (omega arith)
    go (no q) ih = rw (ne_eqb n place q) (omega (arith, ih))

-- a free choice has no one place
pub free-not_only : (domain slot : ℕ) → settled domain ≡ false → eqb domain (only_place slot) ≡ false
unfolding settled only_place
free-not_only domain slot f = go (eqb domain (set_of 64 λ p. eqb p slot)) refl
  where
    below : (n : ℕ) → n ≤ 64 → size_of (set_of n λ p. eqb p slot) ≤ 1
    below n h = let e = size-set n (λ p. eqb p slot) h in omega (arith, e, count_only n slot)

    go : (b : Bool) → eqb domain (set_of 64 λ p. eqb p slot) ≡ b → b ≡ false
    go true t =
        let e : size_of domain ≡ size_of (set_of 64 λ p. eqb p slot) = ap size_of (eqb-true domain (set_of 64 λ p. eqb p slot) t) in
        absurd (false≢true (sym f ∙ le-leb (size_of domain) 1 (omega (arith, e, below 64 (omega arith)))))
    go false t = refl

-- a settled choice has a place as its only one if it has it at all
pub only_by : (domain slot : ℕ) → domain < 2 ^ 64 → settled domain ≡ true → slot < 64 → eqb domain (only_place slot) ≡ has domain slot
unfolding only_place
only_by domain slot w s l = same_test (eqb domain (only_place slot)) (has domain slot) there here
  where
    there : eqb domain (only_place slot) ≡ true → has domain slot ≡ true
    there t = ap (λ (x : ℕ). has x slot) (eqb-true domain (only_place slot) t) ∙ only_has slot slot l ∙ eq-eqb slot slot refl

    alone : has domain slot ≡ true → (n : ℕ) → n ≡ 64 → domain < 2 ^ n → domain ≡ set_of n λ p. eqb p slot
    alone t n e h =
        set_back n domain h
        ∙ set_ext n (has domain) (λ p. eqb p slot)
        λ c k. same_test (has domain c) (eqb c slot)
        (λ u. eq-eqb c slot (settled-one domain c slot s (omega (arith, k, e)) l u t))
        (λ u. ap (has domain) (eqb-true c slot u) ∙ t)

    here : has domain slot ≡ true → eqb domain (only_place slot) ≡ true
    here t = eq-eqb domain (only_place slot) (alone t 64 refl w)

-- ---- amounts added

-- domains that a rule keeps can be skipped
each_skip : (n m : ℕ) (rule : ℕ → ℕ → ℕ) (first : List ℕ) → n ≤ m
    → ((i : ℕ) → n ≤ i → i < m → rule i (get_or first i 0) ≡ get_or first i 0) → each_below m rule first ≡ each_below n rule first
unfolding each_below
each_skip n zero rule first h k = let e : 0 ≡ n = omega (arith, h) in ap (λ (x : ℕ). each_below x rule first) e
each_skip n (suc m) rule first h k = go (ℕ_discrete n (suc m)) (each_skip n m rule first)
  where
    go : Dec (n ≡ suc m)
        → (n ≤ m → ((i : ℕ) → n ≤ i → i < m → rule i (get_or first i 0) ≡ get_or first i 0) → each_below m rule first ≡ each_below n rule first)
        → set (each_below m rule first) m (rule m (get_or first m 0)) ≡ each_below n rule first
    go (yes e) ih = ap (λ (x : ℕ). each_below x rule first) (sym e)
    go (no q) ih =
        let l : n ≤ m = omega (arith, h, q) in
        ap (λ (x : ℕ). set (each_below m rule first) m x) (k m l (omega arith) ∙ sym (each-later m rule first m (omega arith)))
        ∙ set-get_or (each_below m rule first) m 0
        ∙ ih l λ i a b. k i a (omega (arith, b))

module _ (test : ℕ → Bool) (amount : ℕ) where
  -- nothing is added where the test fails
  pub added-same : (slots : ℕ) (sums : List ℕ) → ((slot : ℕ) → slot < slots → test slot ≡ false) → sums ≡ added_to slots test amount sums
  unfolding added_to
  added-same slots sums h = sym (each_same slots _ sums λ i l. rw (h i l) (omega arith))

  -- an amount is added to one slot alone if that is the only one that passes
  pub added-one : (slots place : ℕ) (sums : List ℕ) → place < slots → ((slot : ℕ) → slot < slots → test slot ≡ eqb slot place)
      → set sums place (get_or sums place 0 + amount) ≡ added_to slots test amount sums
  unfolding added_to
  added-one slots place sums l h =
      let e : test place ≡ true = h place l ∙ eq-eqb place place refl in
      ap (λ (b : Bool). set sums place (get_or sums place 0 + cond b amount 0)) (sym e)
      ∙ each_more place _ sums sums (get_or sums place 0 + cond (test place) amount 0)
      (sym (each_same place _ sums λ i m. rw (h i (omega arith), ne_eqb i place (λ z. omega arith)) (omega arith)))
      refl
      ∙ sym (each_skip (place + 1) slots _ sums (omega arith) λ i m n. rw (h i n, ne_eqb i place (λ z. omega arith)) (omega arith))

-- slot after slot, as the code comes by those that a set has
module _ (slots set' amount : ℕ) (first : List ℕ) where
  pub free-start : (next : ℕ) → NextIn slots set' 0 next → first ≡ added_to next (has set') amount first
  free-start next n = added-same (has set') amount next first λ slot l. n.none slot (omega arith) l

  pub free_more : (slot next : ℕ) (sums : List ℕ) → sums ≡ added_to slot (has set') amount first → has set' slot ≡ true → NextIn slots set' (slot + 1) next
      → set sums slot (get_or sums slot 0 + amount) ≡ added_to next (has set') amount first
  unfolding added_to
  free_more slot next sums s t n =
      each_more slot _ first sums (get_or sums slot 0 + amount) s (ap (λ (b : Bool). get_or sums slot 0 + cond b amount 0) (sym t))
      ∙ sym (each_skip (slot + 1) next _ first n.after λ i l m. rw (n.none i l m) (omega arith))

  -- a sum not yet changed is small as before
  pub free-small : (slot : ℕ) (sums : List ℕ) → sums ≡ added_to slot (has set') amount first → Small slots first → slot < slots
      → get_or sums slot 0 ≤ 4194240
  unfolding added_to Small
  free-small slot sums s k l =
      let e : get_or sums slot 0 ≡ get_or first slot 0 = ap (λ (x : List ℕ). get_or x slot 0) s ∙ each-later slot _ first slot (omega arith) in
      omega (arith, e, k slot l)

pub small_at : (slots slot : ℕ) (sums : List ℕ) → Small slots sums → slot < slots → get_or sums slot 0 ≤ 4194240
unfolding Small
small_at slots slot sums k l = k slot l

-- a settled choice stands in its lowest place
module _ (slots domain place : ℕ) (few : slots ≤ 24) (w : domain < 2 ^ 64) (s : settled domain ≡ true) (p : place ≡ lowest_place domain) where
  has-by : (slot : ℕ) → slot < slots → has domain slot ≡ eqb slot place
  has-by slot l = lowest_only domain slot s (omega (arith, few, l)) ∙ ap (eqb slot) (sym p)

  only_is : (slot : ℕ) → slot < slots → eqb domain (only_place slot) ≡ eqb slot place
  only_is slot l = only_by domain slot w s (omega (arith, few, l)) ∙ has-by slot l

  module _ (least most : ℕ) (musts mays : List ℕ) where
    pub settled-past : slots ≤ place
        → (musts ≡ added_to slots (λ slot. eqb domain (only_place slot)) least musts) × (mays ≡ added_to slots (has domain) most mays)
    settled-past h =
        (added-same _ least slots musts λ slot l. only_is slot l ∙ ne_eqb slot place (λ z. omega (arith, z, l, h)), added-same _ most slots mays λ slot l. has-by slot l ∙ ne_eqb slot place (λ z. omega (arith, z, l, h)))

    pub settled_in : place < slots
        → (set musts place (get_or musts place 0 + least) ≡ added_to slots (λ slot. eqb domain (only_place slot)) least musts) × (set mays place (get_or mays place 0 + most) ≡ added_to slots (has domain) most mays)
    settled_in h = (added-one _ least slots place musts h only_is, added-one _ most slots place mays h has-by)

-- a free choice must stand nowhere
pub free_adds : (slots least domain : ℕ) (musts : List ℕ) → settled domain ≡ false → musts ≡ added_to slots (λ slot. eqb domain (only_place slot)) least musts
free_adds slots least domain musts f = added-same _ least slots musts λ slot l. free-not_only domain slot f

-- ---- choice after choice

module _ (slots : ℕ) (mins maxs domains : List ℕ) (few : slots ≤ 24) where
  pub sums_none : (musts mays : List ℕ) → musts ≡ replicate 24 0 → mays ≡ replicate 24 0 → SumsOf slots 0 mins maxs domains musts mays
  sums_none musts mays e f =
      record {
        must-size = ap length e ∙ length-replicate {A = ℕ} 24 0;
        may-size = ap length f ∙ length-replicate {A = ℕ} 24 0;
        must = λ slot l. zeros musts e slot l ∙ certain-none domains slot mins;
        may = λ slot l. zeros mays f slot l ∙ possible-none domains slot maxs;
        must-most = λ slot l. omega (arith, zeros musts e slot l);
        may-most = λ slot l. omega (arith, zeros mays f slot l);
      }
    where
      zeros : (sums : List ℕ) → sums ≡ replicate 24 0 → (slot : ℕ) → slot < slots → get_or sums slot 0 ≡ 0
      zeros sums e slot l = ap (λ (x : List ℕ). get_or x slot 0) e ∙ get_or-replicate {A = ℕ} 24 slot 0 0 (omega (arith, few, l))

  pub sums-small : (n : ℕ) (musts mays : List ℕ) → n ≤ 64 → SumsOf slots n mins maxs domains musts mays → Small slots musts × Small slots mays
  unfolding Small
  sums-small n musts mays h s = (λ slot l. omega (arith, h, s.must-most slot l), λ slot l. omega (arith, h, s.may-most slot l))

  -- a sum with one amount more
  added-at : (test : ℕ → Bool) (amount : ℕ) (sums after : List ℕ) → length sums ≡ 24 → after ≡ added_to slots test amount sums
      → (slot : ℕ) → slot < slots → get_or after slot 0 ≡ get_or sums slot 0 + cond (test slot) amount 0
  unfolding added_to
  added-at test amount sums after n a slot l =
      ap (λ (x : List ℕ). get_or x slot 0) a ∙ each_at slots _ sums slot (omega (arith, n, few)) ∙ rw (lt-ltb slot slots l)

  added-most : (test : Bool) (sum amount n : ℕ) → sum ≤ 65535 * n → amount ≤ 65535 → sum + cond test amount 0 ≤ 65535 * (n + 1)
  added-most true sum amount n h a = omega (arith, h, a)
  added-most false sum amount n h a = omega (arith, h)

  pub sums-more : (n least most domain : ℕ) (musts mays musts' mays' : List ℕ) → SumsOf slots n mins maxs domains musts mays
      → least ≡ get_or mins n 0 → least ≤ 65535 → most ≡ get_or maxs n 0 → most ≤ 65535 → domain ≡ get_or domains n 0
      → musts' ≡ added_to slots (λ slot. eqb domain (only_place slot)) least musts → mays' ≡ added_to slots (has domain) most mays
      → SumsOf slots (n + 1) mins maxs domains musts' mays'
  unfolding added_to
  sums-more n least most domain musts mays musts' mays' s a a' b b' d e f =
      record {
        must-size = ap length e ∙ each-length slots _ musts ∙ s.must-size;
        may-size = ap length f ∙ each-length slots _ mays ∙ s.may-size;
        must =
            λ slot l. must-at slot l
            ∙ certain-more n domains slot mins (get_or musts slot 0) (cond (eqb domain (only_place slot)) least 0) (eqb domain (only_place slot))
            (s.must slot l) (ap (λ (x : ℕ). cond (eqb domain (only_place slot)) x 0) a) (ap (λ (x : ℕ). eqb x (only_place slot)) d);
        may =
            λ slot l. may_at slot l
            ∙ possible-more n domains slot maxs (get_or mays slot 0) (cond (has domain slot) most 0) (has domain slot)
            (s.may slot l) (ap (λ (x : ℕ). cond (has domain slot) x 0) b) (ap (λ (x : ℕ). has x slot) d);
        must-most = λ slot l. rw (must-at slot l) (added-most (eqb domain (only_place slot)) (get_or musts slot 0) least n (s.must-most slot l) a');
        may-most = λ slot l. rw (may_at slot l) (added-most (has domain slot) (get_or mays slot 0) most n (s.may-most slot l) b');
      }
    where
      must-at : (slot : ℕ) → slot < slots → get_or musts' slot 0 ≡ get_or musts slot 0 + cond (eqb domain (only_place slot)) least 0
      must-at = added-at (λ slot. eqb domain (only_place slot)) least musts musts' s.must-size e

      may_at : (slot : ℕ) → slot < slots → get_or mays' slot 0 ≡ get_or mays slot 0 + cond (has domain slot) most 0
      may_at = added-at (has domain) most mays mays' s.may-size f

-- ---- sums in order

pub order-none : (p : ℕ → Bool) → all_below 0 p ≡ true
unfolding all_below
order-none p = refl

module _ (counts : Counts) (sure able : ℕ → ℕ) where
  -- one slot's sums
  abbrev pub ordered : ℕ → Bool
  ordered slot = leb (sure slot) counts.choosers && leb counts.choosers (able slot)

  pub order-fails : (slot : ℕ) (b : Bool) → slot < counts.slots → b ≡ ordered slot → b ≡ false → false ≡ in_order counts sure able
  unfolding in_order
  order-fails slot b l e f = sym (one-fails counts.slots ordered slot l (sym e ∙ f))

  pub order-done : (slot : ℕ) → slot ≡ counts.slots → all_below slot ordered ≡ true → true ≡ in_order counts sure able
  unfolding in_order
  order-done slot e t = sym (ap (λ (n : ℕ). all_below n ordered) (sym e) ∙ t)

  pub order-at : in_order counts sure able ≡ true → (slot : ℕ) → slot < counts.slots → (sure slot ≤ counts.choosers) × (counts.choosers ≤ able slot)
  unfolding in_order
  order-at t slot l =
      let h = all-each counts.slots ordered t slot l in
      (leb-true _ _ (and_left (leb (sure slot) counts.choosers) (leb counts.choosers (able slot)) h), leb-true _ _ (and_right (leb (sure slot) counts.choosers) (leb counts.choosers (able slot)) h))

-- ---- one domain, slot after slot

all_skip : (n m : ℕ) (p : ℕ → Bool) → n ≤ m → ((i : ℕ) → n ≤ i → i < m → p i ≡ true) → all_below m p ≡ all_below n p
unfolding all_below
all_skip n zero p h k = let e : 0 ≡ n = omega (arith, h) in ap (λ (x : ℕ). all_below x p) e
all_skip n (suc m) p h k = go (ℕ_discrete n (suc m)) (all_skip n m p)
  where
    and_true : (a b : Bool) → b ≡ true → (a && b) ≡ a
    and_true true b e = e
    and_true false b e = refl

    go : Dec (n ≡ suc m) → (n ≤ m → ((i : ℕ) → n ≤ i → i < m → p i ≡ true) → all_below m p ≡ all_below n p) → (all_below m p && p m) ≡ all_below n p
    go (yes e) ih = ap (λ (x : ℕ). all_below x p) (sym e)
    go (no q) ih =
        let l : n ≤ m = omega (arith, h, q) in
        and_true (all_below m p) (p m) (k m l (omega arith)) ∙ ih l λ i a b. k i a (omega (arith, b))

all-next : (n : ℕ) (p : ℕ → Bool) → (all_below n p && p n) ≡ all_below (n + 1) p
unfolding all_below
all-next n p = rw (add-one n)

and_assoc : (a b c : Bool) → ((a && b) && c) ≡ (a && (b && c))
and_assoc true b c = refl
and_assoc false b c = refl

module _ (choosers : ℕ) (sure able : ℕ → ℕ) (least most domain : ℕ) where
  abbrev allows : ℕ → ℕ → Bool
  allows place slot = slot_allows choosers (sure slot) (able slot) least most domain place slot

  -- slots that allow every place of the domain can be skipped
  leave_skip : (n m : ℕ) → n ≤ m → ((slot : ℕ) → n ≤ slot → slot < m → (place : ℕ) → place < 64 → has domain place ≡ true → allows place slot ≡ true)
      → slots_leave choosers sure able least most m domain ≡ slots_leave choosers sure able least most n domain
  unfolding slots_leave
  leave_skip n m h k = set_ext 64 _ _ λ place l. go place l (has domain place) refl
    where
      go : (place : ℕ) → place < 64 → (b : Bool) → has domain place ≡ b → (b && all_below m (allows place)) ≡ (b && all_below n (allows place))
      go place l true t = all_skip n m (allows place) h λ slot a b. k slot a b place l t
      go place l false t = refl

  leave_none : domain < 2 ^ 64 → domain ≡ slots_leave choosers sure able least most 0 domain
  unfolding slots_leave all_below
  leave_none w = below 64 w
    where
      bits : (a : Bool) → a ≡ (a && true)
      bits true = refl
      bits false = refl

      below : (n : ℕ) → domain < 2 ^ n → domain ≡ set_of n λ place. has domain place && true
      below n h = set_back n domain h ∙ set_ext n _ _ λ c l. bits (has domain c)

  -- one slot more
  leave_more : (slot left r : ℕ) → left ≡ slots_leave choosers sure able least most slot domain
      → r ≡ kept_places left slot (minimum_fits choosers slot (sure slot) least domain) (maximum_spared choosers slot (able slot) most domain)
      → r ≡ slots_leave choosers sure able least most (slot + 1) domain
  unfolding slots_leave kept_places slot_allows
  leave_more slot left r e f =
      f ∙ ap (λ (x : ℕ). kept_places x slot (minimum_fits choosers slot (sure slot) least domain) (maximum_spared choosers slot (able slot) most domain)) e
      ∙ set_ext 64 _ _ λ place l.
      ap (λ (b : Bool). b && allows place slot) (has-set 64 (λ p. has domain p && all_below slot (allows p)) place l)
      ∙ and_assoc (has domain place) (all_below slot (allows place)) (allows place slot)
      ∙ ap (λ (b : Bool). has domain place && b) (all-next slot (allows place))

  -- what a slot allows to a free choice that has it
  leave_free : settled domain ≡ false → (slot left r : ℕ) → left ≡ slots_leave choosers sure able least most slot domain → has domain slot ≡ true
      → r ≡ kept_places left slot (leb (sure slot + least) choosers) (leb (choosers + most) (able slot))
      → r ≡ slots_leave choosers sure able least most (slot + 1) domain
  unfolding minimum_fits maximum_spared
  leave_free f slot left r e t k =
      leave_more slot left r e
      (k
      ∙ ap₂ (λ (a b : Bool). kept_places left slot (leb (sure slot + cond a 0 least) choosers) (leb (choosers + cond b most 0) (able slot)))
      (sym (free-not_only domain slot f)) (sym t))

  -- a slot that the domain hasn't, and whose sums are in order, allows every place of the domain
  lacks_allow : (slot place : ℕ) → choosers ≤ able slot → has domain slot ≡ false → has domain place ≡ true → allows place slot ≡ true
  unfolding slot_allows maximum_spared
  lacks_allow slot place h f t =
      rw (ne_eqb place slot (λ z. false≢true (sym f ∙ ap (has domain) (sym z) ∙ t)), f) (le-leb (choosers + 0) (able slot) (omega (arith, h)))

  -- a settled domain's own place is allowed by every slot whose sums are in order
  own-allows : (slot place : ℕ) → domain < 2 ^ 64 → settled domain ≡ true → slot < 64 → place < 64 → sure slot ≤ choosers → choosers ≤ able slot
      → has domain place ≡ true → allows place slot ≡ true
  unfolding slot_allows minimum_fits
  own-allows slot place w s l m h k t = go (ℕ_discrete place slot)
    where
      there : place ≡ slot → eqb domain (only_place slot) ≡ true
      there e = only_by domain slot w s l ∙ ap (has domain) (sym e) ∙ t

      gone : (place ≡ slot → ⊥) → (b : Bool) → has domain slot ≡ b → b ≡ false
      gone q true u = absurd (q (settled-one domain place slot s m l t u))
      gone q false u = refl

      go : Dec (place ≡ slot) → allows place slot ≡ true
      go (yes e) = rw (eq-eqb place slot e, there e) (le-leb (sure slot + 0) choosers (omega (arith, h)))
      go (no q) = lacks_allow slot place k (gone q (has domain slot) refl) t

-- as the code comes by the slots that the domain has, with sums in order
module _ (counts : Counts) (sure able : ℕ → ℕ) (least most domain : ℕ) (few : counts.slots ≤ 24) (o : in_order counts sure able ≡ true) where
  skips : (n m : ℕ) → n ≤ m → m ≤ counts.slots → ((slot : ℕ) → n ≤ slot → slot < m → has domain slot ≡ false)
      → slots_leave counts.choosers sure able least most m domain ≡ slots_leave counts.choosers sure able least most n domain
  skips n m h u k =
      leave_skip counts.choosers sure able least most domain n m h
      λ slot a b place l t. lacks_allow counts.choosers sure able least most domain slot place (order-at counts sure able o slot (omega (arith, b, u))).1 (k slot a b) t

  pub leave_start : (next : ℕ) → domain < 2 ^ 64 → NextIn counts.slots domain 0 next → domain ≡ slots_leave counts.choosers sure able least most next domain
  leave_start next w n =
      leave_none counts.choosers sure able least most domain w
      ∙ sym (skips 0 next (omega arith) n.under λ slot a b. n.none slot a b)

  pub leave_next : settled domain ≡ false → (slot next left r : ℕ) → left ≡ slots_leave counts.choosers sure able least most slot domain → has domain slot ≡ true
      → r ≡ kept_places left slot (leb (sure slot + least) counts.choosers) (leb (counts.choosers + most) (able slot))
      → NextIn counts.slots domain (slot + 1) next → r ≡ slots_leave counts.choosers sure able least most next domain
  leave_next f slot next left r e t k n =
      leave_free counts.choosers sure able least most domain f slot left r e t k
      ∙ sym (skips (slot + 1) next n.after n.under λ i a b. n.none i a b)

  -- a settled domain is left as it is
  settled-left : domain < 2 ^ 64 → settled domain ≡ true → domain ≡ slots_leave counts.choosers sure able least most counts.slots domain
  settled-left w s =
      leave_none counts.choosers sure able least most domain w
      ∙ sym
      (leave_skip counts.choosers sure able least most domain 0 counts.slots (omega arith)
      λ slot a b place l t.
      own-allows counts.choosers sure able least most domain slot place w s (omega (arith, b, few)) l (order-at counts sure able o slot b).0
      (order-at counts sure able o slot b).1 t)

-- the three ways through the code
module _ (counts : Counts) (sure able : ℕ → ℕ) (least most domain : ℕ) (order : Bool) (o : order ≡ in_order counts sure able) where
  pub sums-not : order ≡ false → 0 ≡ sums_leave counts sure able least most domain
  unfolding sums_leave
  sums-not f = rw (sym o ∙ f)

  pub sums-settled : counts.slots ≤ 24 → domain < 2 ^ 64 → order ≡ true → settled domain ≡ true → domain ≡ sums_leave counts sure able least most domain
  unfolding sums_leave
  sums-settled few w t s = rw (sym o ∙ t) (settled-left counts sure able least most domain few (sym o ∙ t) w s)

  pub sums-free : (r : ℕ) → order ≡ true → r ≡ slots_leave counts.choosers sure able least most counts.slots domain → r ≡ sums_leave counts sure able least most domain
  unfolding sums_leave
  sums-free r t e = rw (sym o ∙ t) e

-- ---- every domain

abbrev pub left_step : Counts → (ℕ → ℕ) → (ℕ → ℕ) → List ℕ → List ℕ → ℕ → ℕ → ℕ
left_step counts sure able mins maxs choice domain = sums_leave counts sure able (get_or mins choice 0) (get_or maxs choice 0) domain

pub left-more : (counts : Counts) (sure able : ℕ → ℕ) (mins maxs first domains : List ℕ) (choice least most r : ℕ)
    → domains ≡ each_below choice (left_step counts sure able mins maxs) first → least ≡ get_or mins choice 0 → most ≡ get_or maxs choice 0
    → r ≡ sums_leave counts sure able least most (get_or domains choice 0)
    → set domains choice r ≡ each_below (choice + 1) (left_step counts sure able mins maxs) first
left-more counts sure able mins maxs first domains choice least most r d a b e =
    each_more choice (left_step counts sure able mins maxs) first domains r d
    (e ∙ ap₂ (λ (x y : ℕ). sums_leave counts sure able x y (get_or domains choice 0)) a b)

pub left-done : (counts : Counts) (sure able : ℕ → ℕ) (mins maxs first domains : List ℕ) (choice : ℕ)
    → choice ≡ counts.choices → domains ≡ each_below choice (left_step counts sure able mins maxs) first → domains ≡ each_left counts mins maxs sure able first
unfolding each_left
left-done counts sure able mins maxs first domains choice e d = d ∙ ap (λ (n : ℕ). each_below n (left_step counts sure able mins maxs) first) e

-- ---- equal sums leave the same

all_ext : (n : ℕ) (p q : ℕ → Bool) → ((i : ℕ) → i < n → p i ≡ q i) → all_below n p ≡ all_below n q
unfolding all_below
all_ext zero p q h = refl
all_ext (suc n) p q h = ap₂ (λ (a b : Bool). a && b) (all_ext n p q λ i l. h i (omega arith)) (h n (omega arith))

each_ext : (n : ℕ) (rule rule' : ℕ → ℕ → ℕ) (first : List ℕ) → ((i domain : ℕ) → rule i domain ≡ rule' i domain) → each_below n rule first ≡ each_below n rule' first
unfolding each_below
each_ext zero rule rule' first h = refl
each_ext (suc n) rule rule' first h =
    ap₂ (λ (l : List ℕ) (x : ℕ). set l n x) (each_ext n rule rule' first h) (h n (get_or first n 0))

module _ (counts : Counts) (sure able sure' able' : ℕ → ℕ) (s : (slot : ℕ) → slot < counts.slots → sure slot ≡ sure' slot)
    (a : (slot : ℕ) → slot < counts.slots → able slot ≡ able' slot) where
  order_ext : in_order counts sure able ≡ in_order counts sure' able'
  unfolding in_order
  order_ext =
      all_ext counts.slots _ _ λ slot l.
      ap₂ (λ (x y : ℕ). leb x counts.choosers && leb counts.choosers y) (s slot l) (a slot l)

  leave_ext : (least most domain : ℕ)
      → slots_leave counts.choosers sure able least most counts.slots domain ≡ slots_leave counts.choosers sure' able' least most counts.slots domain
  unfolding slots_leave
  leave_ext least most domain =
      set_ext 64 _ _ λ place k.
      ap (λ (b : Bool). has domain place && b)
      (all_ext counts.slots _ _ λ slot l.
      ap₂ (λ (x y : ℕ). slot_allows counts.choosers x y least most domain place slot) (s slot l) (a slot l))

  pub left_ext : (mins maxs first : List ℕ) → each_left counts mins maxs sure able first ≡ each_left counts mins maxs sure' able' first
  unfolding each_left sums_leave
  left_ext mins maxs first =
      each_ext counts.choices _ _ first λ i domain.
      ap₂ (λ (b : Bool) (x : ℕ). cond b x 0) order_ext (leave_ext (get_or mins i 0) (get_or maxs i 0) domain)

-- the sums that the code has are those of the rule
pub left_by_lem : (counts : Counts) (mins maxs first musts mays domains : List ℕ) → SumsOf counts.slots counts.choices mins maxs first musts mays
    → domains ≡ each_left counts mins maxs (λ slot. get_or musts slot 0) (λ slot. get_or mays slot 0) first
    → domains ≡ each_left counts mins maxs (certain counts.choices mins first) (possible counts.choices maxs first) first
left_by_lem counts mins maxs first musts mays domains s e = e ∙ left_ext counts _ _ _ _ s.must s.may mins maxs first
