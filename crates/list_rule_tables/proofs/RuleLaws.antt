-- The rule as the code comes by it.
use mathlib.Core.Path.{◌≡◌, refl, sym, ◌∙◌, ap}
use mathlib.Core.Bool.{Bool, true, false, cond}
use mathlib.Core.List.{List}
use Prim.Native.Nat.{ℕ, zero, suc, ◌+◌, ◌-◌, ◌≤◌, ◌<◌, max}
use native.Mathlib.Decide.{ℕ_discrete}
use native.Mathlib.Nat.{not-suc-le-zero}
use native.Mathlib.Numerals.{add-one}
use native.Mathlib.Omega.{arith}
use borrow.Author.Tests.{lt-ltb, le-ltb, le-leb, lt-leb, eq-eqb, ne_eqb}
use lib.Dec.{leb}
use lib.ListN.{length, get_or, set}
use Rattle.base_lists.specs.Below.{sum_below}
use Rattle.base_lists.proofs.Below.{sum_more}
use Rattle.base_lists.proofs.SumBelow.{sum_ext}
use Rattle.day_rows.specs.declared.check.Counts.{Counts}
use Rattle.base_choice_sets.specs.Sets.{has, set_of}
use Rattle.list_tables.specs.steps.Tables.{tables_fit}
use Rattle.list_tables.proofs.WeightLaws.{below-zeros}
use Rattle.list_domains.specs.steps.Domains.{each_below}
use Rattle.list_domains.proofs.DomainLaws.{each_at, each_same}
use Rattle.list_rule_tables.specs.steps.Figures.{first_in}
use Rattle.list_rule_tables.specs.steps.Rule.{slot_needs, needed, spare_of, slot_stays, weighed_places, table_rule, tables_below, tables_rule}
use Rattle.list_rule_tables.specs.steps.Heaviest.{heaviest_of}
use Rattle.list_rule_tables.proofs.FigureLaws.{first-before}

-- a free choice's weight
pub weight_none : (free : Bool) (x : ℕ) → free ≡ false → 0 ≡ cond free x 0
weight_none free x t = rw t

pub weight_some : (free : Bool) (x result : ℕ) → free ≡ true → result ≡ x → result ≡ cond free x 0
weight_some free x result t e = rw t e

module _ (weight : ℕ → ℕ → ℕ) (table free : ℕ) where
  -- what the free choices weigh: nothing before the first of them, then one more
  pub spare-start : (choices from : ℕ) → from ≡ first_in choices free → 0 ≡ spare_of from weight table free
  unfolding spare_of
  spare-start choices from e =
      let f : ℕ → ℕ = λ choice. cond (has free choice) (weight table choice) 0 in
      sym
      (sum_ext from f (λ k. 0) (λ k h. ap (λ (b : Bool). cond b (weight table k) 0) (first-before choices free from e k h))
      ∙ below-zeros from)

  pub spare-step : (n spare part : ℕ) (inside : Bool) → spare ≡ spare_of n weight table free → inside ≡ has free n
      → part ≡ cond inside (weight table n) 0 → spare + part ≡ spare_of (n + 1) weight table free
  unfolding spare_of
  spare-step n spare part inside s i p =
      let f : ℕ → ℕ = λ choice. cond (has free choice) (weight table choice) 0 in
      ap (λ (x : ℕ). x + part) s ∙ ap (λ (x : ℕ). sum_below n f + x) (p ∙ ap (λ (b : Bool). cond b (weight table n) 0) i) ∙ sym (sum_more f n)

  -- the heaviest of the free choices: none before the first, then one more
  none-heavy : (n : ℕ) → ((k : ℕ) → k < n → has free k ≡ false) → heaviest_of n weight table free ≡ 0
  unfolding heaviest_of
  none-heavy zero h = refl
  none-heavy (suc n) h = rw (none-heavy n (λ k hk. h k (omega arith)), h n (omega arith))

  pub heaviest_start : (choices from : ℕ) → from ≡ first_in choices free → 0 ≡ heaviest_of from weight table free
  heaviest_start choices from e = sym (none-heavy from λ k h. first-before choices free from e k h)

  pub heaviest_step : (n heaviest part result : ℕ) (inside : Bool) → heaviest ≡ heaviest_of n weight table free → inside ≡ has free n
      → part ≡ cond inside (weight table n) 0 → result ≡ max heaviest part → result ≡ heaviest_of (n + 1) weight table free
  unfolding heaviest_of
  heaviest_step n heaviest part result inside h i p r =
      rw add-one
      (r ∙ ap (λ (x : ℕ). max x part) h
      ∙ ap (λ (x : ℕ). max (heaviest_of n weight table free) x) (p ∙ ap (λ (b : Bool). cond b (weight table n) 0) i))

  -- no free choice weighs more than the heaviest
  pub heaviest_most : (n choice : ℕ) → choice < n → has free choice ≡ true → weight table choice ≤ heaviest_of n weight table free
  unfolding heaviest_of
  heaviest_most zero choice h t = absurd (not-suc-le-zero h)
  heaviest_most (suc n) choice h t = go (ℕ_discrete choice n) (heaviest_most n choice)
    where
      go : Dec (choice ≡ n) → (choice < n → has free choice ≡ true → weight table choice ≤ heaviest_of n weight table free)
          → weight table choice ≤ max (heaviest_of n weight table free) (cond (has free n) (weight table n) 0)
      go (yes e) ih =
          let w : weight table choice ≡ weight table n = ap (weight table) e in
          rw (sym (ap (has free) e) ∙ t) (omega (arith, w))
      go (no q) ih = omega (arith, ih (omega (arith, q)) t)

-- a choice that isn't free keeps its domain
pub next-same : (free : Bool) (x domain : ℕ) → free ≡ false → domain ≡ cond free x domain
next-same free x domain t = rw t

module _ (entry light : ℕ → ℕ → ℕ → ℕ) where
  -- what the slots need, one slot more
  pub needed-start : (table from : ℕ) (lacks wants : List ℕ) → 0 ≡ needed entry light 0 table from lacks wants
  unfolding needed sum_below
  needed-start table from lacks wants = refl

  pub needed-step : (table from : ℕ) (lacks wants : List ℕ) (slot need part : ℕ) → need ≡ needed entry light slot table from lacks wants
      → part ≡ max (entry table from (get_or lacks slot 0)) (light table from (get_or wants slot 0)) → need + part ≡ needed entry light (slot + 1) table from lacks wants
  unfolding needed slot_needs
  needed-step table from lacks wants slot need part n p =
      let f : ℕ → ℕ = slot_needs entry light table from lacks wants in
      ap (λ (x : ℕ). x + part) n ∙ ap (λ (x : ℕ). sum_below slot f + x) p ∙ sym (sum_more f slot)

  -- whether a slot stays
  module _ (table from : ℕ) (lacks wants : List ℕ) (weight most need spare domain slot : ℕ) where
    pub slot-lost : has domain slot ≡ false → false ≡ slot_stays entry light table from lacks wants weight most need spare domain slot
    unfolding slot_stays
    slot-lost t = rw t

    pub slot-asked : (less fewer rest whole : ℕ) → has domain slot ≡ true → less ≡ get_or lacks slot 0 - most → fewer ≡ get_or wants slot 0 - 1
        → rest ≡ max (entry table from less) (light table from fewer) → whole ≡ max (entry table from (get_or lacks slot 0)) (light table from (get_or wants slot 0))
        → leb (weight + rest + need) (spare + whole) ≡ slot_stays entry light table from lacks wants weight most need spare domain slot
    unfolding slot_stays slot_needs
    slot-asked less fewer rest whole t l f r w = rw (t, w, r, l, f)

  -- what is left of a domain
  module _ (slots table from : ℕ) (lacks wants : List ℕ) (weight most need spare domain : ℕ) where
    pub left-all : weight + need ≤ spare → domain ≡ weighed_places entry light slots table from lacks wants weight most need spare domain
    unfolding weighed_places
    left-all h = rw (le-leb _ _ h)

    pub left-none : spare < weight + need → spare < need → 0 ≡ weighed_places entry light slots table from lacks wants weight most need spare domain
    unfolding weighed_places
    left-none h n = rw (lt-leb _ _ h, lt-ltb _ _ n)

    pub left-some : spare < weight + need → need ≤ spare
        → set_of slots (slot_stays entry light table from lacks wants weight most need spare domain) ≡ weighed_places entry light slots table from lacks wants weight most need spare domain
    unfolding weighed_places
    left-some h n = rw (lt-leb _ _ h, le-ltb _ _ n)

  -- one choice's domain
  pub next-left : (free : Bool) (slots table from : ℕ) (lacks wants : List ℕ) (need spare heavy most domain weight wide result : ℕ) → free ≡ true
      → weight ≡ heavy → wide ≡ most → result ≡ weighed_places entry light slots table from lacks wants weight wide need spare domain
      → result ≡ cond free (weighed_places entry light slots table from lacks wants heavy most need spare domain) domain
  next-left free slots table from lacks wants need spare heavy most domain weight wide result t w m r =
      r ∙ ap (λ (x : ℕ). weighed_places entry light slots table from lacks wants x wide need spare domain) w
      ∙ ap (λ (x : ℕ). weighed_places entry light slots table from lacks wants heavy x need spare domain) m
      ∙ sym (ap (λ (b : Bool). cond b (weighed_places entry light slots table from lacks wants heavy most need spare domain) domain) t)

module _ (entry light : ℕ → ℕ → ℕ → ℕ) (weight : ℕ → ℕ → ℕ) where
  -- the domains by one table's rule
  module _ (counts : Counts) (maxs : List ℕ) (table free from : ℕ) (lacks wants : List ℕ) where
    -- a choice that isn't free keeps its domain
    rule-settled : (choice domain : ℕ) → has free choice ≡ false → table_rule entry light weight counts maxs table free from lacks wants choice domain ≡ domain
    unfolding table_rule
    rule-settled choice domain t = rw t

    -- up to the first free choice the domains are as they were, then one choice more is narrowed
    pub once-start : (domains : List ℕ) → from ≡ first_in counts.choices free → domains ≡ each_below from (table_rule entry light weight counts maxs table free from lacks wants) domains
    once-start domains e =
        sym
        (each_same from (table_rule entry light weight counts maxs table free from lacks wants) domains λ choice h.
        rule-settled choice (get_or domains choice 0) (first-before counts.choices free from e choice h))

    pub once-step : (before domains : List ℕ) (n need spare result : ℕ) (inside : Bool) → domains ≡ each_below n (table_rule entry light weight counts maxs table free from lacks wants) before
        → n < length before → need ≡ needed entry light counts.slots table from lacks wants → spare ≡ spare_of counts.choices weight table free
        → inside ≡ has free n
        → result ≡ cond inside (weighed_places entry light counts.slots table from lacks wants (weight table n) (get_or maxs n 0) need spare (get_or domains n 0)) (get_or domains n 0)
        → set domains n result ≡ each_below (n + 1) (table_rule entry light weight counts maxs table free from lacks wants) before
    unfolding table_rule each_below
    once-step before domains n need spare result inside d h q s i r =
        let rule : ℕ → ℕ → ℕ = table_rule entry light weight counts maxs table free from lacks wants in
        let at : get_or domains n 0 ≡ get_or before n 0 =
        ap (λ (x : List ℕ). get_or x n 0) d ∙ each_at n rule before n (omega arith)
        ∙ ap (λ (b : Bool). cond b (rule n (get_or before n 0)) (get_or before n 0)) (le-ltb n n (omega arith)) in
        let w : ℕ = weight table n in
        let m : ℕ = get_or maxs n 0 in
        let e : result ≡ rule n (get_or before n 0) =
        r
        ∙ ap (λ (x : ℕ). cond inside (weighed_places entry light counts.slots table from lacks wants w m need spare x) x) at
        ∙ ap (λ (b : Bool). cond b (weighed_places entry light counts.slots table from lacks wants w m need spare (get_or before n 0)) (get_or before n 0)) i
        ∙ ap (λ (x : ℕ). cond (has free n) (weighed_places entry light counts.slots table from lacks wants w m x spare (get_or before n 0)) (get_or before n 0)) q
        ∙ ap (λ (x : ℕ). cond (has free n) (weighed_places entry light counts.slots table from lacks wants w m (needed entry light counts.slots table from lacks wants) x (get_or before n 0)) (get_or before n 0)) s in
        rw add-one (ap (λ (x : List ℕ). set x n result) d ∙ ap (λ (x : ℕ). set (each_below n rule before) n x) e)

    -- a table that can do without the heaviest choice leaves every domain
    rule-keeps : (choice domain : ℕ) → choice < counts.choices
        → needed entry light counts.slots table from lacks wants + heaviest_of counts.choices weight table free ≤ spare_of counts.choices weight table free
        → table_rule entry light weight counts maxs table free from lacks wants choice domain ≡ domain
    unfolding table_rule
    rule-keeps choice domain under h = go (has free choice) refl
      where
        go : (b : Bool) → has free choice ≡ b
            → cond b
            (weighed_places entry light counts.slots table from lacks wants (weight table choice) (get_or maxs choice 0)
            (needed entry light counts.slots table from lacks wants) (spare_of counts.choices weight table free) domain)
            domain
            ≡ domain
        go true t =
            let l : weight table choice ≤ heaviest_of counts.choices weight table free = heaviest_most weight table free counts.choices choice under t in
            sym
            (left-all entry light counts.slots table from lacks wants (weight table choice) (get_or maxs choice 0)
            (needed entry light counts.slots table from lacks wants) (spare_of counts.choices weight table free) domain (omega (arith, h, l)))
        go false t = refl

    pub once_spared : (domains : List ℕ) (need spare heaviest : ℕ) → need ≡ needed entry light counts.slots table from lacks wants
        → spare ≡ spare_of counts.choices weight table free → heaviest ≡ heaviest_of counts.choices weight table free → need + heaviest ≤ spare
        → domains ≡ each_below counts.choices (table_rule entry light weight counts maxs table free from lacks wants) domains
    once_spared domains need spare heaviest n s l h =
        sym (each_same counts.choices (table_rule entry light weight counts maxs table free from lacks wants) domains λ i under. rule-keeps i (get_or domains i 0) under (omega (arith, n, s, l, h)))

  -- the tables one after the other: one table more
  pub each_step : (counts : Counts) (maxs : List ℕ) (free from : ℕ) (lacks wants before domains after : List ℕ) (table : ℕ) → domains ≡ tables_below entry light weight counts maxs free from lacks wants table before
      → after ≡ each_below counts.choices (table_rule entry light weight counts maxs table free from lacks wants) domains
      → after ≡ tables_below entry light weight counts maxs free from lacks wants (table + 1) before
  unfolding tables_below
  each_step counts maxs free from lacks wants before domains after table d a =
      rw add-one (a ∙ ap (λ (x : List ℕ). each_below counts.choices (table_rule entry light weight counts maxs table free from lacks wants) x) d)

  -- each way through the call
  module _ (counts : Counts) (maxs : List ℕ) (free : ℕ) (lacks wants domains : List ℕ) where
    pub rule-many-choices : 64 < counts.choices → domains ≡ tables_rule entry light weight counts maxs free lacks wants domains
    unfolding tables_rule tables_fit
    rule-many-choices h = rw (lt-leb _ _ h)

    pub rule-many-choosers : counts.choices ≤ 64 → 200 < counts.choosers → domains ≡ tables_rule entry light weight counts maxs free lacks wants domains
    unfolding tables_rule tables_fit
    rule-many-choosers c h = rw (le-leb _ _ c, lt-leb _ _ h)

    pub rule-other-length : counts.choices ≤ 64 → counts.choosers ≤ 200 → (length maxs ≡ counts.choices → ⊥) → domains ≡ tables_rule entry light weight counts maxs free lacks wants domains
    unfolding tables_rule tables_fit
    rule-other-length c h n = rw (le-leb _ _ c, le-leb _ _ h, ne_eqb _ _ n)

    pub rule-many-slots : counts.choices ≤ 64 → counts.choosers ≤ 200 → length maxs ≡ counts.choices → 24 < counts.slots → domains ≡ tables_rule entry light weight counts maxs free lacks wants domains
    unfolding tables_rule tables_fit
    rule-many-slots c h n s = rw (le-leb _ _ c, le-leb _ _ h, eq-eqb _ _ n, lt-leb _ _ s)

    pub rule_fits : (from : ℕ) (after : List ℕ) → counts.choices ≤ 64 → counts.choosers ≤ 200 → length maxs ≡ counts.choices → counts.slots ≤ 24
        → from ≡ first_in counts.choices free → after ≡ tables_below entry light weight counts maxs free from lacks wants 4 domains
        → after ≡ tables_rule entry light weight counts maxs free lacks wants domains
    unfolding tables_rule tables_fit
    rule_fits from after c h n s f e =
        rw (le-leb _ _ c, le-leb _ _ h, eq-eqb _ _ n, le-leb _ _ s) (e ∙ ap (λ (x : ℕ). tables_below entry light weight counts maxs free x lacks wants 4 domains) f)
