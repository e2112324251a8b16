-- What the laws of every rule stand on: where a plan's choices stand, and that they stay within
-- what is left of their domains.
use mathlib.Core.Path.{◌≡◌, refl, sym, ◌∙◌, ap}
use mathlib.Core.Bool.{Bool, true, false, ◌&&◌, ◌||◌, not, cond, or-true}
use mathlib.Core.List.{List}
use mathlib.Core.Logic.{◌⊎◌, inl, inr}
use Prim.Native.Nat.{ℕ, zero, suc, ◌+◌, ◌≤◌, ◌<◌}
use native.Mathlib.Decide.{ℕ_discrete}
use native.Mathlib.Omega.{arith}
use borrow.Author.Tests.{lt-ltb, le-ltb, ltb-true, ltb-false, leb-true, eq-eqb, ne_eqb, eqb-true, not-true}
use lib.Arith.{lt_of_le-ne}
use lib.Dec.{eqb, ltb}
use lib.ListN.{length, get_or, set, length-set}
use lib.Seq.{get_or-set_same, get_or-set_other, set-get_or}
use Rattle.base_lists.specs.Below.{count_below}
use Rattle.base_lists.proofs.Below.{and_left, and_right, and_both, same_test}
use Rattle.base_lists.proofs.CountBelow.{count_misses}
use Rattle.base_choice_sets.specs.Sets.{has, size_of}
use Rattle.base_choice_sets.proofs.SetLaws.{has-set}
use Rattle.plan_check.specs.Day.{Day}
use Rattle.plan_check.specs.Plan.{slot_of, stands_in}
use Rattle.plan_check.specs.Feasible.{feasible}
use Rattle.plan_check.specs.PlanMeans.{Placed}
use Rattle.plan_check.proofs.Meaning.{feasible_means}
use Rattle.plan_check.proofs.PlanLaws.{stands-omitted, stands_by}
use Rattle.list_domains.specs.steps.Domains.{place_number, Within, first_domain, only_place, kept_places, both_places, settled, in_one_slot, each_below}

-- ---- a place's number

module _ (slots place : ℕ) where
  pub number_in : place < slots → place_number slots place ≡ place
  unfolding place_number
  number_in h = rw (lt-ltb place slots h)

  pub number-out : slots ≤ place → place_number slots place ≡ slots
  unfolding place_number
  number-out h = rw (le-ltb place slots h)

  pub number_le : place_number slots place ≤ slots
  number_le = go (ltb place slots) refl
    where
      go : (b : Bool) → ltb place slots ≡ b → place_number slots place ≤ slots
      go true t = let h : place < slots = ltb-true place slots t in rw (number_in h) (omega arith)
      go false t = rw (number-out (ltb-false place slots t)) (omega arith)

  -- a number under the slots is the place itself
  pub number-slot : (slot : ℕ) → slot < slots → place_number slots place ≡ slot → place ≡ slot
  number-slot slot h e = go (ltb place slots) refl
    where
      go : (b : Bool) → ltb place slots ≡ b → place ≡ slot
      go true t = sym (number_in (ltb-true place slots t)) ∙ e
      go false t =
          let f : slots ≡ slot = sym (number-out (ltb-false place slots t)) ∙ e in
          absurd (omega (arith, f, h))

-- a feasible plan's choice stands in one of the slots, or is omitted
pub feasible-place : (day : Day) (plan : List ℕ) → feasible day plan ≡ true → (choice : ℕ) → choice < length plan
    → (slot_of plan choice < day.counts.slots) ⊎ (slot_of plan choice ≡ 255)
feasible-place day plan f choice h = go ((feasible_means day plan f).places choice h)
  where
    go : Placed day.counts.slots day.optional plan choice → (slot_of plan choice < day.counts.slots) ⊎ (slot_of plan choice ≡ 255)
    go (Placed.scheduled l) = inl l
    go (Placed.left_out e o) = inr e

-- the number tells whether a choice stands in a slot
pub number-stands : (slots : ℕ) (plan : List ℕ) (choice slot : ℕ) → slots ≤ 255 → slot < slots
    → eqb (place_number slots (slot_of plan choice)) slot ≡ stands_in plan choice slot
number-stands slots plan choice slot s l = go (ℕ_discrete (slot_of plan choice) 255)
  where
    by : (slot_of plan choice ≡ 255 → ⊥) → (b : Bool) → ltb (slot_of plan choice) slots ≡ b
        → eqb (place_number slots (slot_of plan choice)) slot ≡ eqb (slot_of plan choice) slot
    by n true t = ap (λ (x : ℕ). eqb x slot) (number_in slots (slot_of plan choice) (ltb-true (slot_of plan choice) slots t))
    by n false t =
        let h : slots ≤ slot_of plan choice = ltb-false (slot_of plan choice) slots t in
        rw (number-out slots (slot_of plan choice) h)
        (ne_eqb slots slot (λ e. absurd (omega (arith, e, l))) ∙ sym (ne_eqb (slot_of plan choice) slot (λ e. absurd (omega (arith, e, h, l)))))

    go : Dec (slot_of plan choice ≡ 255) → eqb (place_number slots (slot_of plan choice)) slot ≡ stands_in plan choice slot
    go (yes e) =
        rw (number-out slots (slot_of plan choice) (omega (arith, e, s)))
        (ne_eqb slots slot (λ f. absurd (omega (arith, f, l))) ∙ sym (stands-omitted plan choice slot e))
    go (no n) = by n (ltb (slot_of plan choice) slots) refl ∙ sym (stands_by plan choice slot n)

-- ---- what is left of one domain

module _ (domain slot : ℕ) (stands leaves : Bool) (p : ℕ) (l : p < 64) where
  pub kept-has : has (kept_places domain slot stands leaves) p ≡ (has domain p && cond (eqb p slot) stands leaves)
  unfolding kept_places
  kept-has = has-set 64 (λ place. has domain place && cond (eqb place slot) stands leaves) p l

  pub kept-stays : has domain p ≡ true → (p ≡ slot → stands ≡ true) → ((p ≡ slot → ⊥) → leaves ≡ true)
      → has (kept_places domain slot stands leaves) p ≡ true
  kept-stays h s n = kept-has ∙ and_both (has domain p) (cond (eqb p slot) stands leaves) h (go (ℕ_discrete p slot))
    where
      go : Dec (p ≡ slot) → cond (eqb p slot) stands leaves ≡ true
      go (yes e) = rw (eq-eqb p slot e) (s e)
      go (no e) = rw (ne_eqb p slot e) (n e)

module _ (a b p : ℕ) (l : p < 64) where
  pub both-has : has (both_places a b) p ≡ (has a p && has b p)
  unfolding both_places
  both-has = has-set 64 (λ place. has a place && has b place) p l

  pub both-stays : has a p ≡ true → has b p ≡ true → has (both_places a b) p ≡ true
  both-stays h k = both-has ∙ and_both (has a p) (has b p) h k

pub only_has : (place p : ℕ) → p < 64 → has (only_place place) p ≡ eqb p place
unfolding only_place
only_has place p l = has-set 64 (λ c. eqb c place) p l

pub first-has : (slots flag p : ℕ) → p < 64 → has (first_domain slots flag) p ≡ (ltb p slots || (eqb p slots && eqb flag 1))
unfolding first_domain
first-has slots flag p l = has-set 64 (λ place. ltb place slots || (eqb place slots && eqb flag 1)) p l

-- ---- one place left

-- a set of at most one has no two
pub size-one : (domain p q : ℕ) → size_of domain ≤ 1 → p < 64 → q < 64 → has domain p ≡ true → has domain q ≡ true → p ≡ q
unfolding size_of
size-one domain p q s l m h k = below 64 s l m
  where
    below : (n : ℕ) → count_below n (has domain) ≤ 1 → p < n → q < n → p ≡ q
    below n s l m = go (ltb p q) (ltb q p) refl refl
      where
        go : (a b : Bool) → ltb p q ≡ a → ltb q p ≡ b → p ≡ q
        go true b t u =
            absurd (omega (arith, s, count_misses q (has domain) p (ltb-true p q t) h, count_misses n (has domain) q m k))
        go false true t u =
            absurd (omega (arith, s, count_misses p (has domain) q (ltb-true q p u) k, count_misses n (has domain) p l h))
        go false false t u = omega (arith, ltb-false p q t, ltb-false q p u)

pub settled-one : (domain p q : ℕ) → settled domain ≡ true → p < 64 → q < 64 → has domain p ≡ true → has domain q ≡ true → p ≡ q
unfolding settled
settled-one domain p q t = size-one domain p q (leb-true (size_of domain) 1 t)

-- the only place left is a slot
module _ (slots domain : ℕ) (t : in_one_slot slots domain ≡ true) where
  pub slot-one : (p q : ℕ) → p < 64 → q < 64 → has domain p ≡ true → has domain q ≡ true → p ≡ q
  unfolding in_one_slot
  slot-one p q =
      let e : size_of domain ≡ 1 = eqb-true (size_of domain) 1 (and_left (eqb (size_of domain) 1) (not (has domain slots)) t) in
      size-one domain p q (omega (arith, e))

  pub slot-not-omitted : has domain slots ≡ false
  unfolding in_one_slot
  slot-not-omitted = not-true (has domain slots) (and_right (eqb (size_of domain) 1) (not (has domain slots)) t)

-- ---- all domains

pub each-length : (n : ℕ) (rule : ℕ → ℕ → ℕ) (domains : List ℕ) → length (each_below n rule domains) ≡ length domains
unfolding each_below
each-length zero rule domains = refl
each-length (suc n) rule domains = length-set (each_below n rule domains) n (rule n (get_or domains n 0)) ∙ each-length n rule domains

-- each of the first n is what its rule leaves, the others are as they were
pub each_at : (n : ℕ) (rule : ℕ → ℕ → ℕ) (domains : List ℕ) (i : ℕ) → n ≤ length domains
    → get_or (each_below n rule domains) i 0 ≡ cond (ltb i n) (rule i (get_or domains i 0)) (get_or domains i 0)
unfolding each_below
each_at zero rule domains i h = rw (le-ltb i 0 (omega arith))
each_at (suc n) rule domains i h = go (ℕ_discrete i n) (each_at n rule domains i (omega arith))
  where
    v : ℕ
    v = rule n (get_or domains n 0)

    go : Dec (i ≡ n) → get_or (each_below n rule domains) i 0 ≡ cond (ltb i n) (rule i (get_or domains i 0)) (get_or domains i 0)
        → get_or (set (each_below n rule domains) n v) i 0 ≡ cond (ltb i (suc n)) (rule i (get_or domains i 0)) (get_or domains i 0)
    go (yes e) ih =
        rw (e, lt-ltb n (suc n) (omega arith))
        (get_or-set_same (each_below n rule domains) n v 0 (rw (each-length n rule domains) (omega arith)))
    go (no e) ih =
        get_or-set_other (each_below n rule domains) n i v 0 e
        ∙ ih
        ∙ ap (λ (b : Bool). cond b (rule i (get_or domains i 0)) (get_or domains i 0))
        (same_test i n i (suc n) (λ l. omega arith) (λ l. lt_of_le-ne l (λ f. e (sym f))))

-- a rule that keeps each of the first domains leaves them all as they are
pub each_same : (n : ℕ) (rule : ℕ → ℕ → ℕ) (domains : List ℕ) → ((i : ℕ) → i < n → rule i (get_or domains i 0) ≡ get_or domains i 0)
    → each_below n rule domains ≡ domains
unfolding each_below
each_same zero rule domains h = refl
each_same (suc n) rule domains h =
    ap (λ (x : List ℕ). set x n (rule n (get_or domains n 0))) (each_same n rule domains λ i l. h i (omega arith))
    ∙ ap (λ (x : ℕ). set domains n x) (h n (omega arith)) ∙ set-get_or domains n 0

module _ (slots : ℕ) (plan domains : List ℕ) (w : Within slots plan domains) where
  -- a choice of a plan within the domains stands in one of its places
  pub within-at : (choice : ℕ) → choice < length plan → has (get_or domains choice 0) (place_number slots (slot_of plan choice)) ≡ true
  unfolding Within
  within-at = w

  -- a plan stays within what each choice's rule leaves, if each rule keeps the plan's own place
  pub each_within : (n : ℕ) (rule : ℕ → ℕ → ℕ) → n ≤ length domains
      → ((i : ℕ) → i < n → i < length plan → has (get_or domains i 0) (place_number slots (slot_of plan i)) ≡ true → has (rule i (get_or domains i 0)) (place_number slots (slot_of plan i)) ≡ true)
      → Within slots plan (each_below n rule domains)
  unfolding Within
  each_within n rule h keeps i l = ap (λ (x : ℕ). has x (place_number slots (slot_of plan i))) (each_at n rule domains i h) ∙ go (ltb i n) refl
    where
      go : (b : Bool) → ltb i n ≡ b → has (cond (ltb i n) (rule i (get_or domains i 0)) (get_or domains i 0)) (place_number slots (slot_of plan i)) ≡ true
      go true t = rw t (keeps i (ltb-true i n t) l (w i l))
      go false t = rw t (w i l)

  -- a plan stays within the domains of which one was changed, if that one keeps the plan's place
  pub set-within : (at v : ℕ) → at < length domains → (at < length plan → has v (place_number slots (slot_of plan at)) ≡ true)
      → Within slots plan (set domains at v)
  unfolding Within
  set-within at v h keeps i l = go (ℕ_discrete i at)
    where
      go : Dec (i ≡ at) → has (get_or (set domains at v) i 0) (place_number slots (slot_of plan i)) ≡ true
      go (yes e) =
          let k : at < length plan = omega (arith, e, l) in
          rw (e, get_or-set_same domains at v 0 h) (keeps k)
      go (no e) = rw (get_or-set_other domains at i v 0 e) (w i l)

-- ---- the beginning

pub first-within : (day : Day) (plan domains : List ℕ) → feasible day plan ≡ true → day.counts.slots ≤ 24
    → ((i : ℕ) → i < length plan → get_or domains i 0 ≡ first_domain day.counts.slots (get_or day.optional i 0))
    → Within day.counts.slots plan domains
unfolding Within
first-within day plan domains f s firsts i l =
    let slots = day.counts.slots in
    let p = place_number slots (slot_of plan i) in
    let h : p ≤ slots = number_le slots (slot_of plan i) in
    ap (λ (x : ℕ). has x p) (firsts i l)
    ∙ first-has slots (get_or day.optional i 0) p (omega (arith, h, s))
    ∙ go ((feasible_means day plan f).places i l)
  where
    go : Placed day.counts.slots day.optional plan i
        → (ltb (place_number day.counts.slots (slot_of plan i)) day.counts.slots || (eqb (place_number day.counts.slots (slot_of plan i)) day.counts.slots && eqb (get_or day.optional i 0) 1)) ≡ true
    go (Placed.scheduled k) = rw (number_in day.counts.slots (slot_of plan i) k, lt-ltb (slot_of plan i) day.counts.slots k)
    go (Placed.left_out e o) =
        rw (number-out day.counts.slots (slot_of plan i) (omega (arith, e, s)), eq-eqb day.counts.slots day.counts.slots refl, eq-eqb (get_or day.optional i 0) 1 o)
        (or-true (ltb day.counts.slots day.counts.slots))

-- the first so many choices have their first domains
pub record FirstUpTo (slots : ℕ) (optional domains : List ℕ) (n : ℕ) : Type 0 where
  pub size : length domains ≡ 64
  pub first : (choice : ℕ) → choice < n → get_or domains choice 0 ≡ first_domain slots (get_or optional choice 0)

-- before the first choice no first domain has to be told
pub first-none : (slots : ℕ) (optional : List ℕ) {domains : List ℕ} → length domains ≡ 64 → FirstUpTo slots optional domains 0
first-none slots optional e = record { size = e; first = λ choice h. absurd (omega arith) }

-- the first domains of one choice more
pub first_more : {slots : ℕ} {optional domains : List ℕ} {n d : ℕ} → FirstUpTo slots optional domains n → n < 64 → d ≡ first_domain slots (get_or optional n 0)
    → FirstUpTo slots optional (set domains n d) (n + 1)
first_more {slots} {optional} {domains} {n} {d} f h e =
    record {
      size = length-set domains n d ∙ f.size;
      first =
          λ choice k. elim (ℕ_discrete choice n) [
            | yes i ↦ rw (i, get_or-set_same domains n d 0 (omega (arith, f.size))) e
            | no m ↦ get_or-set_other domains n choice d 0 m ∙ f.first choice (omega (arith, k, m))
          ];
    }
