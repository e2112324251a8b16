-- A feasible plan within the domains stays within what the tables leave of them.
use mathlib.Core.Path.{◌≡◌, refl, sym, ◌∙◌, ap, ap₂}
use mathlib.Core.Bool.{Bool, true, false, ◌&&◌, not, cond, false≢true}
use mathlib.Core.List.{List}
use Prim.Native.Nat.{ℕ, zero, suc, ◌+◌, ◌-◌, ◌≤◌, ◌<◌, max}
use native.Mathlib.Omega.{arith}
use borrow.Author.Tests.{le-ltb, ltb-true, ltb-false, le-leb, leb-true, leb-false, eq-eqb, ne_eqb}
use lib.Dec.{eqb, ltb, leb}
use lib.ListN.{length, get_or, replicate, length-replicate}
use Rattle.base_lists.specs.Below.{sum_below}
use Rattle.base_lists.proofs.Below.{and_left, and_right, and_both}
use Rattle.base_lists.proofs.SumBelow.{sum_ext}
use Rattle.day_rows.specs.declared.check.Counts.{Counts}
use Rattle.base_choice_sets.specs.Sets.{has, set_of}
use Rattle.base_choice_sets.proofs.SetLaws.{has-set}
use Rattle.plan_check.specs.Day.{Day}
use Rattle.plan_check.specs.Plan.{slot_of, stands_in, sum_up_to, sum_in}
use Rattle.plan_check.specs.Feasible.{feasible}
use Rattle.plan_check.specs.PlanMeans.{Placed}
use Rattle.plan_check.proofs.Meaning.{feasible_means}
use Rattle.plan_check.proofs.PlanLaws.{stands-omitted, stands_by}
use Rattle.list_tables.specs.steps.Weights.{least_of, sum_from}
use Rattle.list_tables.specs.steps.Tables.{tables_fit, TablesFilled, entry_at, weight_at, written}
use Rattle.list_tables.proofs.WeightLaws.{sum_join, from_ext, below_le, below-add, below-zeros}
use Rattle.list_tables.proofs.TableLaws.{written_in, entry-least}
use Rattle.list_tables.proofs.StartLaws.{stands_only}
use Rattle.list_tables.specs.steps.Lightest.{lightest_of, lightest_at, LightestFilled}
use Rattle.list_domains.specs.steps.Domains.{place_number, Within}
use Rattle.list_domains.proofs.DomainLaws.{number_in, each-length, each_within}
use Rattle.list_rule_tables.specs.steps.Figures.{free_of, first_in, settled_in, settled_sum, free_in, lack_of, lacks_of}
use Rattle.list_rule_tables.specs.steps.Rule.{slot_needs, needed, spare_of, slot_stays, weighed_places, table_rule, tables_below, tables_rule}
use Rattle.list_rule_tables.proofs.FigureLaws.{first_le, first-none}
use Rattle.list_rule_tables.proofs.FillLaws.{both_weigh, one_out, change_one}

-- a free choice taken out of a sum
out_of : (e f s : Bool) (x : ℕ) → cond e 0 (cond (f && s) x 0) ≡ cond ((f && not e) && s) x 0
out_of true true true x = refl
out_of true true false x = refl
out_of true false s x = refl
out_of false true true x = refl
out_of false true false x = refl
out_of false false s x = refl

out_of-all : (e f : Bool) (x : ℕ) → cond e 0 (cond f x 0) ≡ cond (f && not e) x 0
out_of-all true true x = refl
out_of-all true false x = refl
out_of-all false true x = refl
out_of-all false false x = refl

-- a choice that stands in the slot is free, or brings its maximum as a settled one
parted : (s f d : Bool) (x : ℕ) → (s ≡ true → d ≡ true) → cond s x 0 ≤ cond (not f && d) x 0 + cond (f && s) x 0
parted true true d x h = omega arith
parted true false d x h = rw (h refl) (omega arith)
parted false f d x h = omega arith

-- what the free choices of a slot bring without one of them
rest-reached : (free stands : ℕ → Bool) (amount : ℕ → ℕ) (from count i whole : ℕ) → from ≤ i → i < from + count → free i ≡ true
    → whole ≤ sum_from from count (λ choice. cond (free choice && stands choice) (amount choice) 0)
    → whole - cond (stands i) (amount i) 0 ≤ sum_from from count λ choice. cond ((free choice && not (eqb choice i)) && stands choice) (amount choice) 0
rest-reached free stands amount from count i whole lo hi t f =
    let b : ℕ → ℕ = λ choice. cond (free choice && stands choice) (amount choice) 0 in
    let c : ℕ → ℕ = λ choice. cond ((free choice && not (eqb choice i)) && stands choice) (amount choice) 0 in
    let s : sum_from from count b ≡ b i + sum_from from count (λ choice. cond (eqb choice i) 0 (b choice)) = one_out from count i b lo hi in
    let x : sum_from from count (λ choice. cond (eqb choice i) 0 (b choice)) ≡ sum_from from count c =
    from_ext from count (λ choice. cond (eqb choice i) 0 (b choice)) c λ k p q. out_of (eqb k i) (free k) (stands k) (amount k) in
    let bi : b i ≡ cond (stands i) (amount i) 0 = rw t in
    omega (arith, f, s, x, bi)

-- how many free choices stand in a slot: no more than there are choices
in_few : (choices free : ℕ) (plan : List ℕ) (slot : ℕ) → free_in choices free plan slot ≤ choices
unfolding free_in sum_below
in_few zero free plan slot = omega arith
in_few (suc n) free plan slot = go (has free n && stands_in plan n slot) (in_few n free plan slot)
  where
    go : (b : Bool) → sum_below n (λ choice. cond (has free choice && stands_in plan choice slot) 1 0) ≤ n
        → sum_below n (λ choice. cond (has free choice && stands_in plan choice slot) 1 0) + cond b 1 0 ≤ suc n
    go true h = omega arith
    go false h = omega arith

-- a sum of which nothing is taken off
none_off : (f : ℕ → ℕ → ℕ) (x y : ℕ) → f (x - 0) (y - 0) ≡ f x y
none_off f x y = ap₂ f (minus_none x) (minus_none y)
  where
    minus_none : (x : ℕ) → x - 0 ≡ x
    minus_none x = omega arith

module _ (day : Day) (plan : List ℕ) (feasibly : feasible day plan ≡ true) (len : length plan ≡ day.counts.choices)
    (free from : ℕ) (domains : List ℕ) (within : Within day.counts.slots plan domains)
    (before : (choice : ℕ) → choice < from → has free choice ≡ false) (inside : from ≤ day.counts.choices) where
  -- a choice that stands in a slot has it in its domain
  stands-has : (choice slot : ℕ) → choice < day.counts.choices → slot < day.counts.slots → stands_in plan choice slot ≡ true
      → has (get_or domains choice 0) slot ≡ true
  unfolding Within
  stands-has choice slot hc hs t =
      let e : slot_of plan choice ≡ slot = stands_only plan choice slot t in
      let p : place_number day.counts.slots (slot_of plan choice) ≡ slot = number_in day.counts.slots (slot_of plan choice) (omega (arith, e)) ∙ e in
      ap (λ (x : ℕ). has (get_or domains choice 0) x) (sym p) ∙ within choice (omega (arith, len))

  -- a sum to which no choice before the first free one brings anything
  from_first : (b : ℕ → ℕ) → ((k : ℕ) → k < from → b k ≡ 0) → sum_below day.counts.choices b ≡ sum_from from (day.counts.choices - from) b
  from_first b none =
      let count : ℕ = day.counts.choices - from in
      let e : from + count ≡ day.counts.choices = omega arith in
      let j : sum_below day.counts.choices b ≡ sum_below from b + sum_from from count b = ap (λ (x : ℕ). sum_below x b) (sym e) ∙ sum_join from count b in
      let z : sum_below from b ≡ 0 = sum_ext from b (λ k. 0) none ∙ below-zeros from in
      omega (arith, j, z)

  -- the free choices that the plan puts in a slot have maximums that reach its lack
  pub lack-fills : (slot : ℕ) → slot < day.counts.slots
      → lack_of day.counts.choices day.counts.choosers day.maxs free domains slot
      ≤ sum_from from (day.counts.choices - from) λ choice. cond (has free choice && stands_in plan choice slot) (get_or day.maxs choice 0) 0
  unfolding lack_of settled_sum settled_in sum_in sum_up_to
  lack-fills slot hs =
      let m : ℕ → ℕ = λ choice. get_or day.maxs choice 0 in
      let all : ℕ → ℕ = λ choice. cond (stands_in plan choice slot) (m choice) 0 in
      let a : ℕ → ℕ = λ choice. cond (not (has free choice) && has (get_or domains choice 0) slot) (m choice) 0 in
      let b : ℕ → ℕ = λ choice. cond (has free choice && stands_in plan choice slot) (m choice) 0 in
      let h : day.counts.choosers ≤ sum_below (length plan) all = (feasible_means day plan feasibly).maximums slot hs in
      let h2 : sum_below (length plan) all ≡ sum_below day.counts.choices all = ap (λ (x : ℕ). sum_below x all) len in
      let p : sum_below day.counts.choices all ≤ sum_below day.counts.choices (λ choice. a choice + b choice) =
      below_le day.counts.choices all (λ choice. a choice + b choice)
      λ k hk. parted (stands_in plan k slot) (has free k) (has (get_or domains k 0) slot) (m k) (stands-has k slot hk hs) in
      let q : sum_below day.counts.choices (λ choice. a choice + b choice) ≡ sum_below day.counts.choices a + sum_below day.counts.choices b = below-add day.counts.choices a b in
      let j : sum_below day.counts.choices b ≡ sum_from from (day.counts.choices - from) b = from_first b λ k hk. rw (before k hk) in
      omega (arith, h, h2, p, q, j)

  -- the free choices that the plan puts in a slot, from the first one on
  free-from : (slot : ℕ) → free_in day.counts.choices free plan slot
      ≡ sum_from from (day.counts.choices - from) λ choice. cond (has free choice && stands_in plan choice slot) 1 0
  unfolding free_in
  free-from slot = from_first (λ choice. cond (has free choice && stands_in plan choice slot) 1 0) λ k hk. rw (before k hk)

  module _ (wants : List ℕ) (wanted : (slot : ℕ) → slot < day.counts.slots → get_or wants slot 0 ≤ free_in day.counts.choices free plan slot)
      (weight : ℕ → ℕ → ℕ) (table : ℕ) where
    abbrev heavy : ℕ → ℕ
    heavy choice = weight table choice

    abbrev lacking : ℕ → ℕ
    lacking slot = lack_of day.counts.choices day.counts.choosers day.maxs free domains slot

    -- what choices that fill a lack and are so many weigh at the least
    abbrev weighed : ℕ → ℕ → ℕ
    weighed lack want = max (least_of weight day.counts day.maxs table from lack) (lightest_of weight day.counts.choices table from want)

    -- what the free choices of a slot weigh at the least by its lack and want,
    -- once a choice stands in it or not
    abbrev after : ℕ → ℕ → Bool → ℕ
    after i slot stands = weighed (lacking slot - cond stands (get_or day.maxs i 0) 0) (get_or wants slot 0 - cond stands 1 0)

    wants_stand : (slot : ℕ) → slot < day.counts.slots
        → get_or wants slot 0 ≤ sum_from from (day.counts.choices - from) λ choice. cond (has free choice && stands_in plan choice slot) 1 0
    wants_stand slot hs = omega (arith, wanted slot hs, free-from slot)

    -- the spare weight is that of the free choices from the first on
    pub spare-is : spare_of day.counts.choices weight table free
        ≡ sum_from from (day.counts.choices - from) λ choice. cond (has free choice) (heavy choice) 0
    unfolding spare_of
    spare-is = from_first (λ choice. cond (has free choice) (heavy choice) 0) λ k hk. rw (before k hk)

    -- what all slots need together is no more than what is spare
    pub need-fits : sum_below day.counts.slots (λ slot. weighed (lacking slot) (get_or wants slot 0)) ≤ spare_of day.counts.choices weight table free
    unfolding least_of lightest_of
    need-fits =
        rw spare-is
        (both_weigh heavy (λ choice. get_or day.maxs choice 0) (has free) (stands_in plan) (slot_of plan) (stands_only plan) day.counts.slots from (day.counts.choices - from)
        lacking (λ slot. get_or wants slot 0) lack-fills wants_stand)

    -- a free choice's weight fits besides what all slots need, where its own slot lacks its maximum
    -- less and wants one choice less
    pub choice-fits : (i : ℕ) → i < day.counts.choices → has free i ≡ true
        → heavy i + sum_below day.counts.slots (λ slot. after i slot (stands_in plan i slot)) ≤ spare_of day.counts.choices weight table free
    unfolding least_of lightest_of
    choice-fits i hi t =
        let count : ℕ = day.counts.choices - from in
        let m : ℕ → ℕ = λ choice. get_or day.maxs choice 0 in
        let lo : from ≤ i = at_least (ltb i from) refl in
        let w : ℕ → ℕ = λ choice. cond (has free choice) (heavy choice) 0 in
        let less : ℕ → ℕ = λ choice. cond (has free choice && not (eqb choice i)) (heavy choice) 0 in
        let s : sum_from from count w ≡ w i + sum_from from count (λ choice. cond (eqb choice i) 0 (w choice)) = one_out from count i w lo (omega arith) in
        let x : sum_from from count (λ choice. cond (eqb choice i) 0 (w choice)) ≡ sum_from from count less =
        from_ext from count (λ choice. cond (eqb choice i) 0 (w choice)) less λ k a b. out_of-all (eqb k i) (has free k) (heavy k) in
        let wi : w i ≡ heavy i = rw t in
        let l = both_weigh heavy m (λ choice. has free choice && not (eqb choice i)) (stands_in plan) (slot_of plan) (stands_only plan) day.counts.slots from count
        (λ slot. lacking slot - cond (stands_in plan i slot) (get_or day.maxs i 0) 0) (λ slot. get_or wants slot 0 - cond (stands_in plan i slot) 1 0)
        (λ slot hs. rest-reached (has free) (λ choice. stands_in plan choice slot) m from count i (lacking slot) lo (omega arith) t (lack-fills slot hs))
        (λ slot hs. rest-reached (has free) (λ choice. stands_in plan choice slot) (λ choice. 1) from count i (get_or wants slot 0) lo (omega arith) t (wants_stand slot hs)) in
        rw spare-is (omega (arith, s, x, wi, l))
      where
        at_least : (b : Bool) → ltb i from ≡ b → from ≤ i
        at_least true u = absurd (false≢true (sym (before i (ltb-true i from u)) ∙ t))
        at_least false u = ltb-false i from u

    -- what is left of a free choice's domain keeps the plan's place
    module _ (entry light : ℕ → ℕ → ℕ → ℕ) (lacks : List ℕ)
        (least-entry : (lack : ℕ) → lack ≤ day.counts.choosers → entry table from lack ≡ least_of weight day.counts day.maxs table from lack)
        (lightest-entry : (count : ℕ) → count ≤ day.counts.choices → light table from count ≡ lightest_of weight day.counts.choices table from count)
        (lacks-are : (slot : ℕ) → slot < day.counts.slots → get_or lacks slot 0 ≡ lacking slot) where
      -- an entry read at a slot's lack, with some of it taken off
      entry-is : (slot taken : ℕ) → slot < day.counts.slots → entry table from (get_or lacks slot 0 - taken) ≡ least_of weight day.counts day.maxs table from (lacking slot - taken)
      unfolding lack_of
      entry-is slot taken hs =
          let h : get_or lacks slot 0 ≤ day.counts.choosers = rw (lacks-are slot hs) (omega arith) in
          least-entry (get_or lacks slot 0 - taken) (omega (arith, h))
          ∙ ap (λ (x : ℕ). least_of weight day.counts day.maxs table from (x - taken)) (lacks-are slot hs)

      -- a least weight read at what a slot wants, with some of it taken off
      light_is : (slot taken : ℕ) → slot < day.counts.slots → light table from (get_or wants slot 0 - taken) ≡ lightest_of weight day.counts.choices table from (get_or wants slot 0 - taken)
      light_is slot taken hs =
          lightest-entry (get_or wants slot 0 - taken) (omega (arith, wanted slot hs, in_few day.counts.choices free plan slot))

      -- what is read for a slot is what it needs
      rest-is : (slot taken fewer : ℕ) → slot < day.counts.slots
          → max (entry table from (get_or lacks slot 0 - taken)) (light table from (get_or wants slot 0 - fewer)) ≡ weighed (lacking slot - taken) (get_or wants slot 0 - fewer)
      rest-is slot taken fewer hs = ap₂ max (entry-is slot taken hs) (light_is slot fewer hs)

      whole_is : (slot : ℕ) → slot < day.counts.slots → slot_needs entry light table from lacks wants slot ≡ weighed (lacking slot) (get_or wants slot 0)
      unfolding slot_needs
      whole_is slot hs =
          sym (none_off (λ (x : ℕ) (y : ℕ). max (entry table from x) (light table from y)) (get_or lacks slot 0) (get_or wants slot 0))
          ∙ rest-is slot 0 0 hs ∙ none_off weighed (lacking slot) (get_or wants slot 0)

      abbrev need : ℕ
      need = needed entry light day.counts.slots table from lacks wants

      abbrev spare : ℕ
      spare = spare_of day.counts.choices weight table free

      need-is : need ≡ sum_below day.counts.slots λ slot. weighed (lacking slot) (get_or wants slot 0)
      unfolding needed
      need-is = sum_ext day.counts.slots (slot_needs entry light table from lacks wants) (λ slot. weighed (lacking slot) (get_or wants slot 0)) whole_is

      need-within : need ≤ spare
      need-within = omega (arith, need-is, need-fits)

      module _ (i : ℕ) (hi : i < day.counts.choices) (t : has free i ≡ true) where
        -- a slot in which the choice doesn't stand
        after_same : (slot : ℕ) → stands_in plan i slot ≡ false → after i slot (stands_in plan i slot) ≡ weighed (lacking slot) (get_or wants slot 0)
        after_same slot e = ap (λ (b : Bool). after i slot b) e ∙ none_off weighed (lacking slot) (get_or wants slot 0)

        -- an omitted choice is not needed
        omitted-fits : slot_of plan i ≡ 255 → heavy i + need ≤ spare
        omitted-fits o =
            let e : sum_below day.counts.slots (λ slot. after i slot (stands_in plan i slot)) ≡ sum_below day.counts.slots (λ slot. weighed (lacking slot) (get_or wants slot 0)) =
            sum_ext day.counts.slots (λ slot. after i slot (stands_in plan i slot)) (λ slot. weighed (lacking slot) (get_or wants slot 0))
            λ slot hs. after_same slot (stands-omitted plan i slot o) in
            omega (arith, choice-fits i hi t, e, need-is)

        -- a choice in a slot leaves enough for the others
        slot-fits : (p : ℕ) → p < day.counts.slots → slot_of plan i ≡ p → (p ≡ 255 → ⊥)
            → heavy i + max (entry table from (get_or lacks p 0 - get_or day.maxs i 0)) (light table from (get_or wants p 0 - 1)) + need
            ≤ spare + slot_needs entry light table from lacks wants p
        slot-fits p hp e n =
            let f : ℕ → ℕ = λ slot. after i slot (stands_in plan i slot) in
            let g : ℕ → ℕ = λ slot. weighed (lacking slot) (get_or wants slot 0) in
            let c : sum_below day.counts.slots f + g p ≡ sum_below day.counts.slots g + f p =
            change_one day.counts.slots f g p hp (λ slot hs q. after_same slot (by slot ∙ ne_eqb (slot_of plan i) slot (λ z. q (sym z ∙ e)))) in
            let fp : f p ≡ max (entry table from (get_or lacks p 0 - get_or day.maxs i 0)) (light table from (get_or wants p 0 - 1)) =
            ap (λ (b : Bool). after i p b) (by p ∙ eq-eqb (slot_of plan i) p e) ∙ sym (rest-is p (get_or day.maxs i 0) 1 hp) in
            let gp : g p ≡ slot_needs entry light table from lacks wants p = sym (whole_is p hp) in
            omega (arith, choice-fits i hi t, c, fp, gp, need-is)
          where
            by : (slot : ℕ) → stands_in plan i slot ≡ eqb (slot_of plan i) slot
            by slot = stands_by plan i slot (λ z. n (sym e ∙ z))

        -- the plan's place stays
        pub left-keeps : (domain : ℕ) → day.counts.slots ≤ 24 → has domain (place_number day.counts.slots (slot_of plan i)) ≡ true
            → has (weighed_places entry light day.counts.slots table from lacks wants (heavy i) (get_or day.maxs i 0) need spare domain) (place_number day.counts.slots (slot_of plan i)) ≡ true
        unfolding weighed_places slot_stays
        left-keeps domain few d = go (leb (heavy i + need) spare) refl
          where
            kept : spare < heavy i + need → Placed day.counts.slots day.optional plan i
                → has (set_of day.counts.slots (slot_stays entry light table from lacks wants (heavy i) (get_or day.maxs i 0) need spare domain)) (place_number day.counts.slots (slot_of plan i)) ≡ true
            kept o (Placed.left_out e x) = absurd (omega (arith, o, omitted-fits e))
            kept o (Placed.scheduled h) =
                let p : ℕ = slot_of plan i in
                let e : place_number day.counts.slots p ≡ p = number_in day.counts.slots p h in
                let dp : has domain p ≡ true = ap (λ (x : ℕ). has domain x) (sym e) ∙ d in
                rw e
                (has-set day.counts.slots (slot_stays entry light table from lacks wants (heavy i) (get_or day.maxs i 0) need spare domain) p h
                ∙ and_both (has domain p)
                (leb (heavy i + max (entry table from (get_or lacks p 0 - get_or day.maxs i 0)) (light table from (get_or wants p 0 - 1)) + need)
                (spare + slot_needs entry light table from lacks wants p)) dp
                (le-leb _ _ (slot-fits p h refl (λ z. absurd (omega (arith, z, few, h))))))

            go : (b : Bool) → leb (heavy i + need) spare ≡ b
                → has (cond b domain (cond (ltb spare need) 0
                (set_of day.counts.slots (slot_stays entry light table from lacks wants (heavy i) (get_or day.maxs i 0) need spare domain)))) (place_number day.counts.slots (slot_of plan i)) ≡ true
            go true u = d
            go false u =
                rw (le-ltb spare need need-within)
                (kept (leb-false (heavy i + need) spare u) ((feasible_means day plan feasibly).places i (omega (arith, len))))

-- the tables one after the other, all by the figures of domains that the plan is within
module _ (day : Day) (plan : List ℕ) (feasibly : feasible day plan ≡ true) (len : length plan ≡ day.counts.choices)
    (free from : ℕ) (figured : List ℕ) (fitted : Within day.counts.slots plan figured)
    (before : (choice : ℕ) → choice < from → has free choice ≡ false) (inside : from ≤ day.counts.choices)
    (wants : List ℕ) (wanted : (slot : ℕ) → slot < day.counts.slots → get_or wants slot 0 ≤ free_in day.counts.choices free plan slot)
    (entry light : ℕ → ℕ → ℕ → ℕ) (weight : ℕ → ℕ → ℕ) (lacks : List ℕ)
    (least-entry : (table lack : ℕ) → table < 4 → lack ≤ day.counts.choosers → entry table from lack ≡ least_of weight day.counts day.maxs table from lack)
    (lightest-entry : (table count : ℕ) → table < 4 → count ≤ day.counts.choices → light table from count ≡ lightest_of weight day.counts.choices table from count)
    (lacks-are : (slot : ℕ) → slot < day.counts.slots → get_or lacks slot 0 ≡ lack_of day.counts.choices day.counts.choosers day.maxs free figured slot)
    (few : day.counts.slots ≤ 24) (domains : List ℕ) (within : Within day.counts.slots plan domains) (full : day.counts.choices ≤ length domains) where
  rule-keeps : (table i domain : ℕ) → table < 4 → i < day.counts.choices → has domain (place_number day.counts.slots (slot_of plan i)) ≡ true
      → has (table_rule entry light weight day.counts day.maxs table free from lacks wants i domain) (place_number day.counts.slots (slot_of plan i)) ≡ true
  unfolding table_rule
  rule-keeps table i domain h hi d = go (has free i) refl
    where
      go : (b : Bool) → has free i ≡ b
          → has (cond b (weighed_places entry light day.counts.slots table from lacks wants (weight table i) (get_or day.maxs i 0)
          (needed entry light day.counts.slots table from lacks wants) (spare_of day.counts.choices weight table free) domain) domain)
          (place_number day.counts.slots (slot_of plan i)) ≡ true
      go true u =
          left-keeps day plan feasibly len free from figured fitted before inside wants wanted weight table entry light lacks (λ lack l. least-entry table lack h l)
          (λ count l. lightest-entry table count h l) lacks-are i hi u domain few d
      go false u = d

  abbrev left : ℕ → List ℕ
  left n = tables_below entry light weight day.counts day.maxs free from lacks wants n domains

  below_length : (n : ℕ) → length (left n) ≡ length domains
  unfolding tables_below
  below_length zero = refl
  below_length (suc n) =
      each-length day.counts.choices (table_rule entry light weight day.counts day.maxs n free from lacks wants) (left n) ∙ below_length n

  pub below-within : (n : ℕ) → n ≤ 4 → Within day.counts.slots plan (left n)
  unfolding tables_below
  below-within zero h = within
  below-within (suc n) h =
      each_within day.counts.slots plan (left n) (below-within n (omega arith)) day.counts.choices
      (table_rule entry light weight day.counts day.maxs n free from lacks wants) (rw (below_length n) full)
      λ i hi hp d. rule-keeps n i (get_or (left n) i 0) (omega arith) hi d

-- a slot's lack stands at its place
pub lacks-at : (slots choices choosers : ℕ) (maxs : List ℕ) (free : ℕ) (domains : List ℕ) → slots ≤ 24 → (slot : ℕ) → slot < slots
    → get_or (lacks_of slots choices choosers maxs free domains) slot 0 ≡ lack_of choices choosers maxs free domains slot
unfolding lacks_of
lacks-at slots choices choosers maxs free domains few slot hs =
    let f : ℕ → ℕ = lack_of choices choosers maxs free domains in
    let z : slot ≡ 0 + slot = omega arith in
    let n : length (replicate {A = ℕ} 24 0) ≡ 24 = length-replicate {A = ℕ} 24 0 in
    ap (λ (x : ℕ). get_or (written slots 0 f (replicate 24 0)) x 0) z ∙ written_in 0 f (replicate 24 0) slots slot (omega (arith, n)) hs

-- what the tables' shape says
pub fit-choices : (counts : Counts) (maxs : List ℕ) → tables_fit counts maxs ≡ true → counts.choices ≤ 64
unfolding tables_fit
fit-choices counts maxs t = leb-true _ _ (and_left (leb counts.choices 64) (leb counts.choosers 200 && eqb (length maxs) counts.choices) t)

pub fit-choosers : (counts : Counts) (maxs : List ℕ) → tables_fit counts maxs ≡ true → counts.choosers ≤ 200
unfolding tables_fit
fit-choosers counts maxs t =
    leb-true _ _ (and_left (leb counts.choosers 200) (eqb (length maxs) counts.choices) (and_right (leb counts.choices 64) (leb counts.choosers 200 && eqb (length maxs) counts.choices) t))

-- every feasible plan within the domains stays within what filled tables leave of them, where the figures are
-- those of domains that it is within
module _ (day : Day) (plan tables figured domains wants : List ℕ) where
  abbrev free : ℕ
  free = free_of day.counts.choices figured

  abbrev from : ℕ
  from = first_in day.counts.choices free

  abbrev lacks : List ℕ
  lacks = lacks_of day.counts.slots day.counts.choices day.counts.choosers day.maxs free figured

  pub tables_within : feasible day plan ≡ true → length plan ≡ day.counts.choices → TablesFilled day.counts day.maxs tables → LightestFilled day.counts.choices tables
      → length domains ≡ 64 → Within day.counts.slots plan figured → Within day.counts.slots plan domains
      → ((slot : ℕ) → slot < day.counts.slots → get_or wants slot 0 ≤ free_in day.counts.choices (free_of day.counts.choices figured) plan slot)
      → Within day.counts.slots plan
      (tables_rule (entry_at tables) (lightest_at tables) (weight_at tables) day.counts day.maxs (free_of day.counts.choices figured)
      (lacks_of day.counts.slots day.counts.choices day.counts.choosers day.maxs (free_of day.counts.choices figured) figured) wants domains)
  unfolding tables_rule
  tables_within f n filled lightest l v w wanted = go (tables_fit day.counts day.maxs && leb day.counts.slots 24) refl
    where
      go : (b : Bool) → (tables_fit day.counts day.maxs && leb day.counts.slots 24) ≡ b
          → Within day.counts.slots plan
          (cond b (tables_below (entry_at tables) (lightest_at tables) (weight_at tables) day.counts day.maxs free from lacks wants 4 domains) domains)
      go false t = w
      go true t =
          let fits : tables_fit day.counts day.maxs ≡ true = and_left (tables_fit day.counts day.maxs) (leb day.counts.slots 24) t in
          let few : day.counts.slots ≤ 24 = leb-true _ _ (and_right (tables_fit day.counts day.maxs) (leb day.counts.slots 24) t) in
          let c : day.counts.choices ≤ 64 = fit-choices day.counts day.maxs fits in
          let h : day.counts.choosers ≤ 200 = fit-choosers day.counts day.maxs fits in
          let under : from ≤ day.counts.choices = first_le day.counts.choices free in
          below-within day plan f n free from figured v (first-none day.counts.choices free) under wants wanted (entry_at tables) (lightest_at tables) (weight_at tables) lacks
          (λ table lack ht hl. entry-least day.counts day.maxs tables filled c h table from lack ht under hl)
          (λ table count ht hc. lightest.entries table from count ht under hc)
          (lacks-at day.counts.slots day.counts.choices day.counts.choosers day.maxs free figured few)
          few domains w (omega (arith, c, l)) 4 (omega arith)
