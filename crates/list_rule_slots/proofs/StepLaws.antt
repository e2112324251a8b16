-- Each way through the code, over plain variables.
use mathlib.Core.Path.{◌≡◌, refl, sym, ◌∙◌, ap, ap₂}
use mathlib.Core.Bool.{Bool, true, false, ◌&&◌, not, cond, false≢true}
use mathlib.Core.List.{List}
use Prim.Native.Nat.{ℕ, zero, suc, ◌+◌, ◌-◌, ◌^◌, ◌≤◌, ◌<◌}
use native.Mathlib.Numerals.{add-one}
use native.Mathlib.Omega.{arith}
use borrow.Author.Tests.{le-leb, lt-leb, leb-true, leb-false, le-ltb, lt-ltb, eq-eqb, ne_eqb, eqb-true}
use mir.Val.{bool_byte}
use lib.Dec.{eqb, ltb, leb}
use lib.ListN.{length, get_or, set}
use lib.Seq.{get_or-set_other}
use Rattle.base_lists.specs.Below.{one, count_below, sum_below}
use Rattle.base_lists.proofs.Below.{and_left, and_right, count-more, sum_more}
use Rattle.base_lists.proofs.CountBelow.{count_le}
use Rattle.day_rows.specs.Op.{eq_op, gt_op, geq_op, neq_op, leq_op, lt_op}
use Rattle.day_rows.specs.declared.check.Counts.{Counts}
use Rattle.day_rows.specs.declared.row.Row.{Row}
use Rattle.base_choice_sets.specs.Sets.{has}
use Rattle.list_domains.specs.steps.Domains.{only_place, kept_places, each_below}
use Rattle.list_domains.proofs.PlaceLaws.{kept-all}
use Rattle.list_domains.proofs.DomainLaws.{only_has, each_same}
use Rattle.list_rule_slots.specs.steps.SlotRules.{certain, possible, each_left, amounts_fit, slots_rule, must_count, may_count, op_can, limit_leaves, limit_fits, limit_rule}
use Rattle.list_rule_slots.specs.steps.Limits.{limit_idle}

-- ---- small functions

-- a sum of two against a third, the second taken from it
pub sum_over : (a b c : ℕ) → c < b → false ≡ leb (a + b) c
sum_over a b c h = sym (lt-leb (a + b) c (omega arith))

pub sum_by : (a b c : ℕ) → b ≤ c → leb a (c - b) ≡ leb (a + b) c
sum_by a b c h = go (leb a (c - b)) refl
  where
    go : (t : Bool) → leb a (c - b) ≡ t → t ≡ leb (a + b) c
    go true t = sym (le-leb (a + b) c (omega (arith, leb-true a (c - b) t)))
    go false t = sym (lt-leb (a + b) c (omega (arith, leb-false a (c - b) t)))

-- 1 for a test that holds, else 0: std's word for it, and the rules'
pub one_from : (test : Bool) → bool_byte test ≡ one test
unfolding one
one_from true = refl
one_from false = refl

pub from_le : (test : Bool) → bool_byte test ≤ 1
from_le true = omega arith
from_le false = omega arith

pub more-none : (n : ℕ) (test : Bool) → test ≡ true → n ≡ n + one (not test)
unfolding one
more-none n test e = rw e (omega arith)

pub more-one : (n : ℕ) (test : Bool) → test ≡ false → n + 1 ≡ n + one (not test)
unfolding one
more-one n test e = rw e

pub less_none : (n : ℕ) (test : Bool) → test ≡ false → n ≡ n - one test
unfolding one
less_none n test e = rw e (omega arith)

pub less_one : (n : ℕ) (test : Bool) → test ≡ true → n - 1 ≡ n - one test
unfolding one
less_one n test e = rw e

-- a number from low to high, and another one
module _ (low number high : ℕ) where
  pub between-under : number < low → false ≡ (leb low number && leb number high)
  between-under h = rw (lt-leb low number h)

  pub between-by : low ≤ number → leb number high ≡ (leb low number && leb number high)
  between-by h = rw (le-leb low number h)

  pub another_low : (low ≡ number → ⊥) → true ≡ not (eqb low number && eqb high number)
  another_low n = rw (ne_eqb low number n)

  pub another_high : low ≡ number → not (eqb high number) ≡ not (eqb low number && eqb high number)
  another_high e = rw (eq-eqb low number e)

-- the op decides the comparison
module _ (op low high limit : ℕ) where
  pub can_eq : op ≡ eq_op → (leb low limit && leb limit high) ≡ op_can op low high limit
  unfolding op_can
  can_eq e = rw e

  pub can_neq : op ≡ neq_op → not (eqb low limit && eqb high limit) ≡ op_can op low high limit
  unfolding op_can
  can_neq e = rw e

  pub can_gt : op ≡ gt_op → ltb limit high ≡ op_can op low high limit
  unfolding op_can
  can_gt e = rw e

  pub can_lt : op ≡ lt_op → ltb low limit ≡ op_can op low high limit
  unfolding op_can
  can_lt e = rw e

  pub can_geq : op ≡ geq_op → leb limit high ≡ op_can op low high limit
  unfolding op_can
  can_geq e = rw e

  pub can_leq : op ≡ leq_op → leb low limit ≡ op_can op low high limit
  unfolding op_can
  can_leq e = rw e

  pub can-not : (op ≡ eq_op → ⊥) → (op ≡ neq_op → ⊥) → (op ≡ gt_op → ⊥) → (op ≡ lt_op → ⊥) → (op ≡ geq_op → ⊥) → (op ≡ leq_op → ⊥)
      → false ≡ op_can op low high limit
  unfolding op_can
  can-not a b c d e f =
      sym (simp (ne_eqb _ _ a, ne_eqb _ _ b, ne_eqb _ _ c, ne_eqb _ _ d, ne_eqb _ _ e, ne_eqb _ _ f))

-- ---- the sums and the counts, one choice more

module _ (n : ℕ) (domains : List ℕ) (slot : ℕ) where
  pub certain-more : (amounts : List ℕ) (sum part : ℕ) (test : Bool) → sum ≡ certain n amounts domains slot → part ≡ cond test (get_or amounts n 0) 0
      → test ≡ eqb (get_or domains n 0) (only_place slot) → sum + part ≡ certain (n + 1) amounts domains slot
  unfolding certain
  certain-more amounts sum part test e f g =
      ap₂ (λ (x y : ℕ). x + y) e (f ∙ ap (λ (b : Bool). cond b (get_or amounts n 0) 0) g)
      ∙ sym (sum_more (λ choice. cond (eqb (get_or domains choice 0) (only_place slot)) (get_or amounts choice 0) 0) n)

  pub possible-more : (amounts : List ℕ) (sum part : ℕ) (test : Bool) → sum ≡ possible n amounts domains slot → part ≡ cond test (get_or amounts n 0) 0
      → test ≡ has (get_or domains n 0) slot → sum + part ≡ possible (n + 1) amounts domains slot
  unfolding possible
  possible-more amounts sum part test e f g =
      ap₂ (λ (x y : ℕ). x + y) e (f ∙ ap (λ (b : Bool). cond b (get_or amounts n 0) 0) g)
      ∙ sym (sum_more (λ choice. cond (has (get_or domains choice 0) slot) (get_or amounts choice 0) 0) n)

  pub must-more : (count part : ℕ) (test : Bool) → count ≡ must_count n domains slot → part ≡ one test
      → test ≡ eqb (get_or domains n 0) (only_place slot) → count + part ≡ must_count (n + 1) domains slot
  unfolding must_count
  must-more count part test e f g =
      ap₂ (λ (x y : ℕ). x + y) e (f ∙ ap one g) ∙ sym (count-more (λ choice. eqb (get_or domains choice 0) (only_place slot)) n)

  pub may_more : (count part : ℕ) (test : Bool) → count ≡ may_count n domains slot → part ≡ one test
      → test ≡ has (get_or domains n 0) slot → count + part ≡ may_count (n + 1) domains slot
  unfolding may_count
  may_more count part test e f g =
      ap₂ (λ (x y : ℕ). x + y) e (f ∙ ap one g) ∙ sym (count-more (λ choice. has (get_or domains choice 0) slot) n)

  -- no more than there are choices
  pub must_le : must_count n domains slot ≤ n
  unfolding must_count
  must_le = count_le n λ choice. eqb (get_or domains choice 0) (only_place slot)

  pub may_le : may_count n domains slot ≤ n
  unfolding may_count
  may_le = count_le n λ choice. has (get_or domains choice 0) slot

-- before the first choice
module _ (domains : List ℕ) (slot : ℕ) where
  pub certain-none : (amounts : List ℕ) → 0 ≡ certain 0 amounts domains slot
  unfolding certain sum_below
  certain-none amounts = refl

  pub possible-none : (amounts : List ℕ) → 0 ≡ possible 0 amounts domains slot
  unfolding possible sum_below
  possible-none amounts = refl

  pub must-none : 0 ≡ must_count 0 domains slot
  unfolding must_count count_below
  must-none = refl

  pub may_none : 0 ≡ may_count 0 domains slot
  unfolding may_count count_below
  may_none = refl

-- ---- one domain

pub limit-leaves : (row : Row) (must may domain m1 m2 m3 m4 r : ℕ) (only here stands leaves : Bool)
    → only ≡ eqb domain (only_place row.left) → here ≡ has domain row.left
    → m1 ≡ must + one (not only) → m2 ≡ may + one (not here) → stands ≡ op_can row.extra m1 m2 row.right
    → m3 ≡ must - one only → m4 ≡ may - one here → leaves ≡ op_can row.extra m3 m4 row.right
    → r ≡ kept_places domain row.left stands leaves → r ≡ limit_leaves row must may domain
unfolding limit_leaves
limit-leaves row must may domain m1 m2 m3 m4 r only here stands leaves o h a b s c d t e =
    e
    ∙ ap₂ (λ (x y : Bool). kept_places domain row.left x y)
    (s ∙ ap₂ (λ (x y : ℕ). op_can row.extra x y row.right) (a ∙ ap (λ (x : Bool). must + one (not x)) o) (b ∙ ap (λ (x : Bool). may + one (not x)) h))
    (t ∙ ap₂ (λ (x y : ℕ). op_can row.extra x y row.right) (c ∙ ap (λ (x : Bool). must - one x) o) (d ∙ ap (λ (x : Bool). may - one x) h))

-- ---- every domain

pub each_none : (rule : ℕ → ℕ → ℕ) (domains : List ℕ) → domains ≡ each_below 0 rule domains
unfolding each_below
each_none rule domains = refl

-- the domains not yet changed are as the rule found them
pub each-later : (n : ℕ) (rule : ℕ → ℕ → ℕ) (domains : List ℕ) (i : ℕ) → n ≤ i → get_or (each_below n rule domains) i 0 ≡ get_or domains i 0
unfolding each_below
each-later zero rule domains i h = refl
each-later (suc n) rule domains i h =
    get_or-set_other (each_below n rule domains) n i (rule n (get_or domains n 0)) 0 (λ e. omega arith)
    ∙ each-later n rule domains i (omega arith)

-- one domain more is changed
pub each_more : (n : ℕ) (rule : ℕ → ℕ → ℕ) (first domains : List ℕ) (v : ℕ) → domains ≡ each_below n rule first
    → v ≡ rule n (get_or domains n 0) → set domains n v ≡ each_below (n + 1) rule first
unfolding each_below
each_more n rule first domains v e f =
    let g : get_or domains n 0 ≡ get_or first n 0 = ap (λ (l : List ℕ). get_or l n 0) e ∙ each-later n rule first n (omega arith) in
    rw (add-one n) (ap₂ (λ (l : List ℕ) (x : ℕ). set l n x) e (f ∙ ap (rule n) g))

-- what the loop hands on: the rule with the counts that the code has
abbrev pub limit_step : Row → ℕ → ℕ → ℕ → ℕ → ℕ
limit_step row must may choice domain = limit_leaves row must may domain

-- ---- a limit passed over

module _ (row : Row) (must may : ℕ) where
  -- the row's op and limit
  abbrev can : ℕ → ℕ → Bool
  can low high = op_can row.extra low high row.right

  -- the first test that fails decides
  pub slack_first : (a : Bool) → a ≡ op_can row.extra (must + 1) may row.right → a ≡ false → false ≡ limit_idle row must may
  unfolding limit_idle
  slack_first a p f = rw (sym p ∙ f)

  module _ (a : Bool) (p : a ≡ op_can row.extra (must + 1) may row.right) (t : a ≡ true)
      (high : ℕ) (l : high ≡ may - 1) (b : Bool) (q : b ≡ op_can row.extra must high row.right) where
    low-is : b ≡ op_can row.extra must (may - 1) row.right
    low-is = q ∙ ap (can must) l

    pub slack_second : b ≡ false → false ≡ limit_idle row must may
    unfolding limit_idle
    slack_second f = rw (sym p ∙ t, sym low-is ∙ f)

    module _ (u : b ≡ true) (c : Bool) (r : c ≡ op_can row.extra must may row.right) where
      pub slack_third : c ≡ false → false ≡ limit_idle row must may
      unfolding limit_idle
      slack_third f = rw (sym p ∙ t, sym low-is ∙ u, sym r ∙ f)

      module _ (v : c ≡ true) (d : Bool) (s : d ≡ op_can row.extra (must + 1) (may + 1) row.right) where
        pub slack_fourth : d ≡ false → false ≡ limit_idle row must may
        unfolding limit_idle
        slack_fourth f = rw (sym p ∙ t, sym low-is ∙ u, sym r ∙ v, sym s ∙ f)

        pub slack_by : d ≡ true → (lower upper : ℕ) → lower ≡ must - 1 → upper ≡ may - 1
            → (e : Bool) → e ≡ op_can row.extra lower upper row.right → e ≡ limit_idle row must may
        unfolding limit_idle
        slack_by w lower upper m n e g =
            rw (sym p ∙ t, sym low-is ∙ u, sym r ∙ v, sym s ∙ w)
            (g ∙ ap₂ can m n)

  -- a limit is idle where all five tests hold
  idle_means : limit_idle row must may ≡ true
      → (can (must + 1) may ≡ true) × (can must (may - 1) ≡ true) × (can must may ≡ true) × (can (must + 1) (may + 1) ≡ true) × (can (must - 1) (may - 1) ≡ true)
  unfolding limit_idle
  idle_means t =
      let a = can (must + 1) may in
      let b = can must (may - 1) in
      let c = can must may in
      let d = can (must + 1) (may + 1) in
      let e = can (must - 1) (may - 1) in
      let t4 = and_left (a && b && c && d) e t in
      let t3 = and_left (a && b && c) d t4 in
      let t2 = and_left (a && b) c t3 in
      (and_left a b t2, and_right a b t2, and_right (a && b) c t3, and_right (a && b && c) d t4, and_right (a && b && c && d) e t)

  -- a limit that can be kept can be kept by counts that are the same
  can-same : {low low' high high' : ℕ} → low ≡ low' → high ≡ high' → can low high ≡ true → can low' high' ≡ true
  can-same p q t = ap₂ can (sym p) (sym q) ∙ t

  -- the counts with a choice in the slot, and without it; who must stand there may
  module _ (t : limit_idle row must may ≡ true) (only here : Bool) (i : only ≡ true → here ≡ true) where
    idle_stands : can (must + one (not only)) (may + one (not here)) ≡ true
    idle_stands = go only here refl refl
      where
        go : (o h : Bool) → only ≡ o → here ≡ h → can (must + one (not only)) (may + one (not here)) ≡ true
        go true true p q = can-same (more-none must only p) (more-none may here q) (idle_means t).2
        go true false p q = absurd (false≢true (sym q ∙ i p))
        go false true p q = can-same (more-one must only p) (more-none may here q) (idle_means t).0
        go false false p q = can-same (more-one must only p) (more-one may here q) (idle_means t).3

    idle_leaves : can (must - one only) (may - one here) ≡ true
    idle_leaves = go only here refl refl
      where
        go : (o h : Bool) → only ≡ o → here ≡ h → can (must - one only) (may - one here) ≡ true
        go true true p q = can-same (less_one must only p) (less_one may here q) (idle_means t).4
        go true false p q = absurd (false≢true (sym q ∙ i p))
        go false true p q = can-same (less_none must only p) (less_one may here q) (idle_means t).1
        go false false p q = can-same (less_none must only p) (less_none may here q) (idle_means t).2

  -- an idle limit leaves a domain as it is
  limit-keeps : limit_idle row must may ≡ true → row.left < 64 → (domain : ℕ) → domain < 2 ^ 64 → limit_leaves row must may domain ≡ domain
  unfolding limit_leaves
  limit-keeps t l domain w =
      let only : Bool = eqb domain (only_place row.left) in
      let here : Bool = has domain row.left in
      let i : only ≡ true → here ≡ true =
      λ e. ap (λ (x : ℕ). has x row.left) (eqb-true domain (only_place row.left) e) ∙ only_has row.left row.left l ∙ eq-eqb row.left row.left refl in
      ap₂ (λ (x y : Bool). kept_places domain row.left x y) (idle_stands t only here i) (idle_leaves t only here i)
      ∙ sym (kept-all domain row.left w)

-- ---- the calls

module _ (counts : Counts) (mins maxs domains : List ℕ) where
  pub slots-choices : 64 < counts.choices → domains ≡ slots_rule counts mins maxs domains
  unfolding slots_rule amounts_fit
  slots-choices h = rw (lt-leb _ _ h)

  pub slots-slots : counts.choices ≤ 64 → 24 < counts.slots → domains ≡ slots_rule counts mins maxs domains
  unfolding slots_rule amounts_fit
  slots-slots c h = rw (le-leb _ _ c, lt-leb _ _ h)

  pub slots-mins : counts.choices ≤ 64 → counts.slots ≤ 24 → (length mins ≡ counts.choices → ⊥) → domains ≡ slots_rule counts mins maxs domains
  unfolding slots_rule amounts_fit
  slots-mins c s n = rw (le-leb _ _ c, le-leb _ _ s, ne_eqb _ _ n)

  pub slots-maxs : counts.choices ≤ 64 → counts.slots ≤ 24 → length mins ≡ counts.choices → (length maxs ≡ counts.choices → ⊥)
      → domains ≡ slots_rule counts mins maxs domains
  unfolding slots_rule amounts_fit
  slots-maxs c s a n = rw (le-leb _ _ c, le-leb _ _ s, eq-eqb _ _ a, ne_eqb _ _ n)

  pub slots-done : counts.choices ≤ 64 → counts.slots ≤ 24 → length mins ≡ counts.choices → length maxs ≡ counts.choices
      → each_left counts mins maxs (certain counts.choices mins domains) (possible counts.choices maxs domains) domains ≡ slots_rule counts mins maxs domains
  unfolding slots_rule amounts_fit
  slots-done c s a b = rw (le-leb _ _ c, le-leb _ _ s, eq-eqb _ _ a, eq-eqb _ _ b)

module _ (counts : Counts) (row : Row) (domains : List ℕ) where
  pub limit-choices : 64 < counts.choices → domains ≡ limit_rule counts row domains
  unfolding limit_rule limit_fits
  limit-choices h = rw (lt-leb _ _ h)

  pub limit-slots : counts.choices ≤ 64 → 24 < counts.slots → domains ≡ limit_rule counts row domains
  unfolding limit_rule limit_fits
  limit-slots c h = rw (le-leb _ _ c, lt-leb _ _ h)

  pub limit-past : counts.choices ≤ 64 → counts.slots ≤ 24 → counts.slots ≤ row.left → domains ≡ limit_rule counts row domains
  unfolding limit_rule limit_fits
  limit-past c s h = rw (le-leb _ _ c, le-leb _ _ s, le-ltb _ _ h)

  pub limit-done : (must may : ℕ) (last : List ℕ) → counts.choices ≤ 64 → counts.slots ≤ 24 → row.left < counts.slots
      → must ≡ must_count counts.choices domains row.left → may ≡ may_count counts.choices domains row.left
      → last ≡ each_below counts.choices (limit_step row must may) domains → last ≡ limit_rule counts row domains
  unfolding limit_rule limit_fits
  limit-done must may last c s h a b e =
      rw (le-leb _ _ c, le-leb _ _ s, lt-ltb _ _ h)
      (e ∙ ap₂ (λ (x y : ℕ). each_below counts.choices (limit_step row x y) domains) a b)

  -- an idle limit is passed over
  pub limit_spared : (must may : ℕ) (test : Bool) → counts.choices ≤ 64 → counts.slots ≤ 24 → row.left < counts.slots
      → must ≡ must_count counts.choices domains row.left → may ≡ may_count counts.choices domains row.left → ((i : ℕ) → get_or domains i 0 < 2 ^ 64)
      → test ≡ limit_idle row must may → test ≡ true → domains ≡ limit_rule counts row domains
  limit_spared must may test c s h a b w e t =
      limit-done must may domains c s h a b
      (sym (each_same counts.choices (limit_step row must may) domains
      λ i l. limit-keeps row must may (sym e ∙ t) (omega (arith, s, h)) (get_or domains i 0) (w i)))
