-- What the slots want, and what that leaves of the domains, as the code comes by it.
use mathlib.Core.Path.{◌≡◌, refl, sym, ◌∙◌, ap, ap₂}
use mathlib.Core.Bool.{Bool, true, false, ◌&&◌, cond}
use mathlib.Core.List.{List}
use Prim.Native.Nat.{ℕ, zero, suc, ◌+◌, ◌≤◌, ◌<◌, min}
use native.Mathlib.Numerals.{add-one}
use native.Mathlib.Omega.{arith}
use borrow.Author.Tests.{lt-ltb, le-ltb, eq-eqb, ne_eqb}
use lib.Dec.{ltb}
use lib.ListN.{get_or, set}
use lib.Seq.{get_or-set_other, set-get_or}
use Rattle.base_lists.specs.Below.{sum_below}
use Rattle.base_lists.proofs.Below.{sum_more}
use Rattle.base_lists.proofs.CountBelow.{count_le}
use Rattle.base_choice_sets.specs.Sets.{has, set_of, size_of, with_choice}
use Rattle.base_choice_sets.proofs.SetLaws.{has-past, set_ext, set-none, set_wider, set-step}
use Rattle.list_domains.specs.steps.Domains.{both_places, each_below}
use Rattle.list_rule_counts.specs.steps.CountRule.{count_leaves, want_rule}
use Rattle.list_rule_counts.specs.steps.Figures.{keeps_of}

-- ---- what the slots want

pub need-start : (wants : List ℕ) → 0 ≡ min (sum_below 0 (λ slot. get_or wants slot 0)) 65
unfolding sum_below
need-start wants = refl

pub need-step : (wants : List ℕ) (slot need next : ℕ) → need ≡ min (sum_below slot (λ s. get_or wants s 0)) 65 → next ≡ min (need + get_or wants slot 0) 65
    → next ≡ min (sum_below (slot + 1) (λ s. get_or wants s 0)) 65
need-step wants slot need next n p = rw (sum_more (λ s. get_or wants s 0) slot) (omega (arith, n, p))

pub needy-start : (p : ℕ → Bool) → 0 ≡ set_of 0 p
needy-start p = sym (set-none p)

pub needy-step : (wants : List ℕ) (slot set result : ℕ) → slot < 64 → set ≡ set_of slot (λ s. ltb 0 (get_or wants s 0))
    → result ≡ cond (ltb 0 (get_or wants slot 0)) (with_choice set slot) set → result ≡ set_of (slot + 1) (λ s. ltb 0 (get_or wants s 0))
needy-step wants slot set result h s r = set-step slot (λ s. ltb 0 (get_or wants s 0)) set result (ltb 0 (get_or wants slot 0)) h s refl r

-- ---- the domains

pub kept-all : (free : Bool) (set domain : ℕ) → free ≡ false → domain ≡ cond free (both_places domain set) domain
kept-all free set domain t = rw t

pub kept-some : (free : Bool) (set domain result : ℕ) → free ≡ true → result ≡ both_places domain set → result ≡ cond free (both_places domain set) domain
kept-some free set domain result t e = rw t e

pub each_none : (rule : ℕ → ℕ → ℕ) (domains : List ℕ) → domains ≡ each_below 0 rule domains
unfolding each_below
each_none rule domains = refl

-- the domains not yet changed are as the rule found them
each-later : (n : ℕ) (rule : ℕ → ℕ → ℕ) (domains : List ℕ) (i : ℕ) → n ≤ i → get_or (each_below n rule domains) i 0 ≡ get_or domains i 0
unfolding each_below
each-later zero rule domains i h = refl
each-later (suc n) rule domains i h =
    get_or-set_other (each_below n rule domains) n i (rule n (get_or domains n 0)) 0 (λ e. omega arith)
    ∙ each-later n rule domains i (omega arith)

pub each_more : (n : ℕ) (rule : ℕ → ℕ → ℕ) (first domains : List ℕ) (v : ℕ) → domains ≡ each_below n rule first
    → v ≡ rule n (get_or domains n 0) → set domains n v ≡ each_below (n + 1) rule first
unfolding each_below
each_more n rule first domains v e f =
    let g : get_or domains n 0 ≡ get_or first n 0 = ap (λ (l : List ℕ). get_or l n 0) e ∙ each-later n rule first n (omega arith) in
    rw (add-one n) (ap₂ (λ (l : List ℕ) (x : ℕ). set l n x) e (f ∙ ap (rule n) g))

pub keeps-step : (n free set : ℕ) (first domains : List ℕ) (v : ℕ) (inside : Bool) → domains ≡ each_below n (keeps_of free set) first → inside ≡ has free n
    → v ≡ cond inside (both_places (get_or domains n 0) set) (get_or domains n 0)
    → lib.ListN.set domains n v ≡ each_below (n + 1) (keeps_of free set) first
unfolding keeps_of
keeps-step n free set first domains v inside e i r =
    each_more n (keeps_of free set) first domains v e
    (r ∙ ap (λ (b : Bool). cond b (both_places (get_or domains n 0) set) (get_or domains n 0)) i)

-- rules that agree
each_ext : (n : ℕ) (f g : ℕ → ℕ → ℕ) (domains : List ℕ) → ((i x : ℕ) → f i x ≡ g i x) → each_below n f domains ≡ each_below n g domains
unfolding each_below
each_ext zero f g domains h = refl
each_ext (suc n) f g domains h =
    ap₂ (λ (l : List ℕ) (x : ℕ). set l n x) (each_ext n f g domains h) (h n (get_or domains n 0))

-- a rule that changes nothing
each_same : (n : ℕ) (f : ℕ → ℕ → ℕ) (domains : List ℕ) → ((i x : ℕ) → f i x ≡ x) → each_below n f domains ≡ domains
unfolding each_below
each_same zero f domains h = refl
each_same (suc n) f domains h =
    ap₂ (λ (l : List ℕ) (x : ℕ). set l n x) (each_same n f domains h) (h n (get_or domains n 0)) ∙ set-get_or domains n 0

-- nothing of a domain is in the empty set
pub both-none : (domain : ℕ) → both_places domain 0 ≡ 0
unfolding both_places
both-none domain =
    set_ext 64 (λ place. has domain place && has 0 place) (λ place. false) (λ c h. out (has domain c) (has 0 c) (has-past 0 0 c (omega arith) (omega arith)))
    ∙ set_wider 0 64 (λ place. false) (λ c h. refl) (omega arith) ∙ set-none (λ place. false)
  where
    out : (a b : Bool) → b ≡ false → (a && b) ≡ false
    out true b e = e
    out false b e = refl

-- ---- the rule

-- a set is no more than all choices
size_le : (set : ℕ) → size_of set ≤ 64
unfolding size_of
size_le set = count_le 64 (has set)

module _ (slots : ℕ) (wants : List ℕ) (free : ℕ) where
  abbrev need : ℕ
  need = sum_below slots (λ slot. get_or wants slot 0)

  abbrev needy : ℕ
  needy = set_of slots λ slot. ltb 0 (get_or wants slot 0)

  leaves-few : need < size_of free → (domain : ℕ) → count_leaves slots wants free domain ≡ domain
  unfolding count_leaves
  leaves-few h domain = rw (le-ltb (size_of free) need (omega arith), ne_eqb need (size_of free) (λ e. omega arith))

  leaves-many : size_of free < need → (domain : ℕ) → count_leaves slots wants free domain ≡ 0
  unfolding count_leaves
  leaves-many h domain = rw (lt-ltb (size_of free) need h)

  leaves_all : need ≡ size_of free → (domain : ℕ) → count_leaves slots wants free domain ≡ both_places domain needy
  unfolding count_leaves
  leaves_all e domain = rw (le-ltb (size_of free) need (omega (arith, e)), eq-eqb need (size_of free) e)

  both-same : (b : Bool) (x : ℕ) → cond b x x ≡ x
  both-same true x = refl
  both-same false x = refl

  module _ (choices : ℕ) (domains : List ℕ) (found spare : ℕ) (n : found ≡ min (sum_below slots (λ slot. get_or wants slot 0)) 65) (s : spare ≡ size_of free) where
    pub wants-few : found < spare → domains ≡ each_below choices (want_rule slots wants free) domains
    unfolding want_rule
    wants-few h =
        sym (each_same choices (want_rule slots wants free) domains λ i x.
        ap (λ (w : ℕ). cond (has free i) w x) (leaves-few (omega (arith, n, s, h, size_le free)) x) ∙ both-same (has free i) x)

    pub wants-many : (after : List ℕ) → spare < found → after ≡ each_below choices (keeps_of free 0) domains → after ≡ each_below choices (want_rule slots wants free) domains
    unfolding want_rule keeps_of
    wants-many after h e =
        e ∙ each_ext choices (keeps_of free 0) (want_rule slots wants free) domains λ i x.
        ap (λ (w : ℕ). cond (has free i) w x) (both-none x ∙ sym (leaves-many (omega (arith, n, s, h)) x))

    pub wants-all : (set : ℕ) (after : List ℕ) → spare ≤ found → found ≤ spare → set ≡ set_of slots (λ slot. ltb 0 (get_or wants slot 0))
        → after ≡ each_below choices (keeps_of free set) domains → after ≡ each_below choices (want_rule slots wants free) domains
    unfolding want_rule keeps_of
    wants-all set after h k t e =
        e ∙ ap (λ (x : ℕ). each_below choices (keeps_of free x) domains) t
        ∙ each_ext choices (keeps_of free needy) (want_rule slots wants free) domains λ i x.
        ap (λ (w : ℕ). cond (has free i) w x) (sym (leaves_all (omega (arith, n, s, h, k, size_le free)) x))
