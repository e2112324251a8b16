-- A feasible plan stays within what the walk sees at each of its starts.
use mathlib.Core.Path.{◌≡◌, refl, sym, ap, ◌∙◌}
use mathlib.Core.Bool.{Bool, true, false, ◌&&◌, not, cond, false≢true}
use mathlib.Core.List.{List, [], ◌∷◌}
use mathlib.Core.Logic.{◌⊎◌, inl, inr}
use Prim.Native.Nat.{ℕ, zero, suc, ◌+◌, ◌≤◌, ◌<◌}
use native.Mathlib.Omega.{arith}
use borrow.Author.Tests.{lt-ltb, le-ltb, ltb-true, ltb-false, le-leb, eq-eqb, ne_eqb}
use lib.Dec.{eqb, ltb, leb}
use lib.ListN.{length, get_or, set, take, replicate, length-set, length-replicate, get_or-replicate}
use lib.Seq.{get_or-take}
use Rattle.base_lists.proofs.Below.{each_all, and_both, and_left, and_right}
use Rattle.day_rows.specs.Row.{row_of}
use Rattle.day_rows.specs.declared.check.Counts.{Counts}
use Rattle.day_rows.specs.declared.row.Row.{Row}
use Rattle.plan_check.specs.Day.{Day}
use Rattle.plan_check.specs.Plan.{slot_of, sum_in}
use Rattle.plan_check.specs.Feasible.{feasible}
use Rattle.base_choice_sets.specs.Sets.{has, set_of}
use Rattle.base_choice_sets.proofs.SetLaws.{has-past, has-set, has-set-past}
use Rattle.list_domains.specs.steps.Domains.{place_number, only_place, Within}
use Rattle.list_domains.proofs.DomainLaws.{number_le, only_has, each-length, within-at, set-within, feasible-place}
use Rattle.list_nodes.specs.steps.Walk.{place_of, place_fits}
use Rattle.list_tables.specs.steps.Tables.{TablesFilled, tables_fit, entry_at, weight_at}
use Rattle.list_rule_slots.specs.steps.SlotRules.{slots_rule, limit_rule}
use Rattle.list_rule_slots.proofs.SlotLaws.{slots_length, slots-within}
use Rattle.list_rule_slots.proofs.LimitLaws.{limit-length}
use Rattle.list_rule_rows.specs.steps.RowRules.{row_rule}
use Rattle.list_rule_rows.specs.steps.RowsRule.{any_rule, rows_rule}
use Rattle.list_rule_rows.proofs.RowsLaws.{row-length, rows-within}
use Rattle.list_tables.specs.steps.Lightest.{lightest_at, LightestFilled}
use Rattle.list_rule_tables.specs.steps.Figures.{free_of, first_in, lacks_of, lacks_in, free_in}
use Rattle.list_rule_tables.specs.steps.Enough.{need_of, slot_kept, lacks_at, weight_after, enough_with, enough_asked, enough_places}
use Rattle.list_rule_tables.specs.steps.Rule.{table_rule, tables_below, tables_rule}
use Rattle.list_rule_tables.proofs.FigureLaws.{lacks-in}
use Rattle.list_rule_tables.proofs.WithinLaws.{tables_within}
use Rattle.list_rule_tables.proofs.EnoughPlaces.{enough-keeps}
use Rattle.list_rule_counts.specs.steps.CountRule.{has_limit, wants_of, rooms_of, broken, counts_rule}
use Rattle.list_rule_counts.proofs.CountLaws.{counts-length, counts-within, wants_stand, rooms_stand, not-broken}
use Rattle.list_look.specs.steps.Open.{open_at}
use Rattle.list_look.proofs.OpenLaws.{open_has, open_fits}
use Rattle.list_decided.specs.steps.Leaves.{rows_leave}
use Rattle.list_look.specs.steps.Look.{decided, alive, alive_or, limits_leave, weighed, kept_if_alive, looked_ahead, near_end, opened_at, seen_at}

-- ---- the last choice stands where the plan has it

pub decided-length : (slots : ℕ) (plan : List ℕ) (choice : ℕ) (domains : List ℕ) → length (decided slots plan choice domains) ≡ length domains
unfolding decided
decided-length slots plan zero domains = refl
decided-length slots plan (suc choice) domains = length-set domains choice (only_place (place_number slots (slot_of plan choice)))

-- the last choice's place is looked at in the start alone
decided-start : (slots : ℕ) (plan : List ℕ) (choice : ℕ) (domains : List ℕ) → decided slots plan choice domains ≡ decided slots (take choice plan) choice domains
unfolding decided slot_of
decided-start slots plan zero domains = refl
decided-start slots plan (suc choice) domains =
    ap (λ (place : ℕ). set domains choice (only_place (place_number slots place))) (sym (get_or-take (suc choice) plan choice 255 (omega arith)))

decided-within : (slots : ℕ) (plan : List ℕ) (choice : ℕ) (domains : List ℕ) → slots ≤ 24 → choice ≤ length domains → Within slots plan domains
    → Within slots plan (decided slots plan choice domains)
unfolding decided
decided-within slots plan zero domains few h w = w
decided-within slots plan (suc choice) domains few h w =
    let p = place_number slots (slot_of plan choice) in
    let l : p ≤ slots = number_le slots (slot_of plan choice) in
    set-within slots plan domains w choice (only_place p) (omega arith) λ k. only_has p p (omega (arith, l, few)) ∙ eq-eqb p p refl

-- ---- no choice of the plan is without a place

has-none : (place : ℕ) → has 0 place ≡ false
has-none place = has-past 0 0 place (omega arith) (omega arith)

place-left : (domain place : ℕ) → has domain place ≡ true → not (eqb domain 0) ≡ true
place-left domain place h =
    rw (ne_eqb domain 0 λ e. absurd (false≢true (sym (has-none place) ∙ ap (λ (x : ℕ). has x place) (sym e) ∙ h)))

within-alive : (slots : ℕ) (plan : List ℕ) (choices : ℕ) (domains : List ℕ) → length plan ≡ choices → Within slots plan domains → alive choices domains ≡ true
unfolding alive
within-alive slots plan choices domains e w =
    each_all choices (λ choice. not (eqb (get_or domains choice 0) 0)) λ choice h.
    place-left (get_or domains choice 0) (place_number slots (slot_of plan choice)) (within-at slots plan domains w choice (omega (arith, e, h)))

alive-within : (slots : ℕ) (plan : List ℕ) (choices : ℕ) (domains : List ℕ) → length plan ≡ choices → Within slots plan domains → Within slots plan (alive_or choices domains)
unfolding alive_or
alive-within slots plan choices domains e w = rw (within-alive slots plan choices domains e w) w

alive-length : (choices : ℕ) (domains : List ℕ) → length domains ≡ 64 → length (alive_or choices domains) ≡ 64
unfolding alive_or
alive-length choices domains l = go (alive choices domains)
  where
    go : (b : Bool) → length (cond b domains (replicate 64 0)) ≡ 64
    go true = l
    go false = length-replicate {A = ℕ} 64 0

-- ---- no rule changes how many domains there are

tables-below : (entry light : ℕ → ℕ → ℕ → ℕ) (weight : ℕ → ℕ → ℕ) (counts : Counts) (maxs : List ℕ) (free from : ℕ) (lacks wants : List ℕ) (n : ℕ) (domains : List ℕ)
    → length (tables_below entry light weight counts maxs free from lacks wants n domains) ≡ length domains
unfolding tables_below
tables-below entry light weight counts maxs free from lacks wants zero domains = refl
tables-below entry light weight counts maxs free from lacks wants (suc n) domains =
    each-length counts.choices (table_rule entry light weight counts maxs n free from lacks wants) (tables_below entry light weight counts maxs free from lacks wants n domains)
    ∙ tables-below entry light weight counts maxs free from lacks wants n domains

tables_length : (entry light : ℕ → ℕ → ℕ → ℕ) (weight : ℕ → ℕ → ℕ) (counts : Counts) (maxs : List ℕ) (free : ℕ) (lacks wants domains : List ℕ)
    → length (tables_rule entry light weight counts maxs free lacks wants domains) ≡ length domains
unfolding tables_rule
tables_length entry light weight counts maxs free lacks wants domains = go (tables_fit counts maxs && leb counts.slots 24)
  where
    go : (b : Bool) → length (cond b (tables_below entry light weight counts maxs free (first_in counts.choices free) lacks wants 4 domains) domains) ≡ length domains
    go true = tables-below entry light weight counts maxs free (first_in counts.choices free) lacks wants 4 domains
    go false = refl

any_length : (counts : Counts) (row : Row) (domains : List ℕ) → length (any_rule counts row domains) ≡ length domains
unfolding any_rule
any_length counts row domains = go (eqb row.kind 6)
  where
    go : (b : Bool) → length (cond b (limit_rule counts row domains) (row_rule counts.choices counts.slots row domains)) ≡ length domains
    go true = limit-length counts row domains
    go false = row-length counts.choices counts.slots row domains

rows-length : (counts : Counts) (rows domains : List ℕ) → length (rows_rule counts rows domains) ≡ length domains
unfolding rows_rule
rows-length counts [] domains = refl
rows-length counts (number ∷ rows) domains =
    rows-length counts rows (any_rule counts (row_of number) domains) ∙ any_length counts (row_of number) domains

-- ---- tables and counts

module _ (counts : Counts) (maxs rows tables domains : List ℕ) (l : length domains ≡ 64) where
  limits-length : (free : ℕ) (lacks : List ℕ) → length (limits_leave counts maxs rows tables free lacks domains) ≡ 64
  unfolding limits_leave
  limits-length free lacks = go (broken (entry_at tables) counts rows (first_in counts.choices free) lacks domains)
    where
      wants : List ℕ
      wants = wants_of (entry_at tables) counts rows (first_in counts.choices free) lacks domains

      by_tables : List ℕ
      by_tables = tables_rule (entry_at tables) (lightest_at tables) (weight_at tables) counts maxs free lacks wants domains

      go : (b : Bool) → length (cond b (replicate 64 0) (counts_rule (entry_at tables) counts maxs free lacks wants (rooms_of counts rows domains) by_tables)) ≡ 64
      go true = length-replicate {A = ℕ} 64 0
      go false =
          counts-length (entry_at tables) counts maxs free lacks wants (rooms_of counts rows domains) by_tables
          ∙ tables_length (entry_at tables) (lightest_at tables) (weight_at tables) counts maxs free lacks wants domains
          ∙ l

  weighed-length : length (weighed counts maxs rows tables domains) ≡ 64
  unfolding weighed
  weighed-length = go (has_limit rows)
    where
      free : ℕ
      free = cond (leb counts.choices 64) (free_of counts.choices domains) 0

      go : (b : Bool)
          → length (cond b (limits_leave counts maxs rows tables free (lacks_in counts maxs domains) domains)
          (tables_rule (entry_at tables) (lightest_at tables) (weight_at tables) counts maxs free (lacks_in counts maxs domains) (replicate 24 0) domains)) ≡ 64
      go true = limits-length free (lacks_in counts maxs domains)
      go false = tables_length (entry_at tables) (lightest_at tables) (weight_at tables) counts maxs free (lacks_in counts maxs domains) (replicate 24 0) domains ∙ l

-- ---- the look ahead

module _ (counts : Counts) (mins maxs rows tables plan : List ℕ) (choice : ℕ) (domains : List ℕ) where
  -- the look ahead depends on the plan's places before the choice alone
  pub looked-start : choice ≤ length plan → looked_ahead counts mins maxs rows tables (take choice plan) choice domains ≡ looked_ahead counts mins maxs rows tables plan choice domains
  unfolding looked_ahead
  looked-start h = ap (λ (d : List ℕ). kept_if_alive counts mins maxs rows (weighed counts maxs rows tables d)) (sym (decided-start counts.slots plan choice domains))

  pub looked-length : length domains ≡ 64 → length (looked_ahead counts mins maxs rows tables plan choice domains) ≡ 64
  unfolding looked_ahead kept_if_alive
  looked-length l = go (alive counts.choices by-counts)
    where
      last : List ℕ
      last = decided counts.slots plan choice domains

      by-counts : List ℕ
      by-counts = weighed counts maxs rows tables last

      go : (b : Bool) → length (cond b (alive_or counts.choices (rows_rule counts rows (slots_rule counts mins maxs by-counts))) (replicate 64 0)) ≡ 64
      go true =
          alive-length counts.choices (rows_rule counts rows (slots_rule counts mins maxs by-counts))
          (rows-length counts rows (slots_rule counts mins maxs by-counts)
          ∙ slots_length counts mins maxs by-counts
          ∙ weighed-length counts maxs rows tables last (decided-length counts.slots plan choice domains ∙ l))
      go false = length-replicate {A = ℕ} 64 0

-- ---- as the walk sees it

module _ (counts : Counts) (mins maxs rows tables plan : List ℕ) (choice : ℕ) (domains : List ℕ) where
  -- what the walk sees depends on the plan's places before the choice alone
  pub seen_start : choice ≤ length plan → seen_at counts mins maxs rows tables (take choice plan) choice domains ≡ seen_at counts mins maxs rows tables plan choice domains
  unfolding seen_at
  seen_start h =
      ap (λ (l : List ℕ). cond (near_end counts.choices choice) domains l)
      (looked-start counts mins maxs rows tables plan choice domains h)

  pub seen-length : length domains ≡ 64 → length (seen_at counts mins maxs rows tables plan choice domains) ≡ 64
  unfolding seen_at
  seen-length l = go (near_end counts.choices choice)
    where
      go : (b : Bool) → length (cond b domains (looked_ahead counts mins maxs rows tables plan choice domains)) ≡ 64
      go true = l
      go false = looked-length counts mins maxs rows tables plan choice domains l

  -- the walk sees the domains as they are near the end, and before it as a look ahead leaves them
  pub seen_near : near_end counts.choices choice ≡ true → domains ≡ seen_at counts mins maxs rows tables plan choice domains
  unfolding seen_at
  seen_near t = sym (rw t)

  pub seen_far : near_end counts.choices choice ≡ false → looked_ahead counts mins maxs rows tables plan choice domains ≡ seen_at counts mins maxs rows tables plan choice domains
  unfolding seen_at
  seen_far f = sym (rw f)

-- a place that leaves enough to the choices after is in the domain
enough-inside : (entry : ℕ → ℕ → ℕ → ℕ) (weight : ℕ → ℕ → ℕ) (counts : Counts) (choice most : ℕ) (fills : List ℕ) (domain at : ℕ)
    → has (enough_places entry weight counts choice most fills domain) at ≡ true → has domain at ≡ true
unfolding enough_places enough_with slot_kept
enough-inside entry weight counts choice most fills domain at t =
    go (enough_asked counts choice) (leb (need_of entry counts.slots 1 (choice + 1) (lacks_at counts.choosers counts.slots fills)) (weight_after weight counts.choices (choice + 1))) t
  where
    kept : ℕ → Bool
    kept =
        slot_kept entry 1 (choice + 1) (lacks_at counts.choosers counts.slots fills) 0 most (need_of entry counts.slots 1 (choice + 1) (lacks_at counts.choosers counts.slots fills))
        (weight_after weight counts.choices (choice + 1)) domain

    in_domain : (b : Bool) → ltb at counts.slots ≡ b → has (set_of counts.slots kept) at ≡ true → has domain at ≡ true
    in_domain true l h = and_left (has domain at) _ (sym (has-set counts.slots kept at (ltb-true at counts.slots l)) ∙ h)
    in_domain false l h = absurd (false≢true (sym (has-set-past counts.slots kept at (ltb-false at counts.slots l)) ∙ h))

    go : (asked enough : Bool) → has (cond asked (cond enough domain (set_of counts.slots kept)) domain) at ≡ true → has domain at ≡ true
    go true true h = h
    go true false h = in_domain (ltb at counts.slots) refl h
    go false enough h = h

module _ (counts : Counts) (mins maxs optional rows tables plan : List ℕ) (choice : ℕ) (sums fills : List ℕ) (domain : ℕ) (few : counts.slots ≤ 24) (at : ℕ) (low : at ≤ counts.slots)
    (t : has (opened_at counts mins maxs optional rows tables plan choice sums fills domain) at ≡ true) where
  -- every place that is open fits
  pub opened-fits : place_fits counts.slots counts.choosers mins optional sums choice (place_of counts.slots at) ≡ true
  unfolding opened_at
  opened-fits = open_fits (entry_at tables) (weight_at tables) counts mins maxs optional choice sums fills (rows_leave counts.slots choice plan rows domain) few at low t

  -- every place that is open is one that the decided rows leave
  pub opened-left : has (rows_leave counts.slots choice plan rows domain) at ≡ true
  unfolding opened_at open_at
  opened-left =
      enough-inside (entry_at tables) (weight_at tables) counts choice (get_or maxs choice 0) fills (rows_leave counts.slots choice plan rows domain) at
      (and_right (place_fits counts.slots counts.choosers mins optional sums choice (place_of counts.slots at))
      (has (enough_places (entry_at tables) (weight_at tables) counts choice (get_or maxs choice 0) fills (rows_leave counts.slots choice plan rows domain)) at)
      (sym (open_has (entry_at tables) (weight_at tables) counts mins maxs optional choice sums fills (rows_leave counts.slots choice plan rows domain) few at low) ∙ t))

-- a slot, or omission, is the place of its number
pub place-back : (slots place : ℕ) → slots ≤ 24 → (place < slots) ⊎ (place ≡ 255) → place_of slots (place_number slots place) ≡ place
unfolding place_of place_number
place-back slots place few (inl h) = rw (lt-ltb place slots h) (rw (lt-ltb place slots h))
place-back slots place few (inr e) =
    rw (e, le-ltb 255 slots (omega (arith, few)), le-ltb slots slots (omega arith))

-- what the laws of the look ahead ask of a day
pub record Looks (day : Day) (tables : List ℕ) : Type 0 where
  pub few-choices : day.counts.choices ≤ 64
  pub few-slots : day.counts.slots ≤ 24
  pub few-choosers : day.counts.choosers ≤ 200
  pub mins-fit : length day.mins ≡ day.counts.choices
  pub maxs-fit : length day.maxs ≡ day.counts.choices
  pub filled : TablesFilled day.counts day.maxs tables
  pub lightest : LightestFilled day.counts.choices tables

module _ (day : Day) (tables : List ℕ) (looks : Looks day tables) (plan : List ℕ) (f : feasible day plan ≡ true) (size : length plan ≡ day.counts.choices) where
  -- a feasible plan stays within what the look ahead leaves: each rule keeps it
  module _ (domains : List ℕ) (l : length domains ≡ 64) (w : Within day.counts.slots plan domains) where
    abbrev free : ℕ
    free = free_of day.counts.choices domains

    abbrev lacks : List ℕ
    lacks = lacks_of day.counts.slots day.counts.choices day.counts.choosers day.maxs free domains

    -- the tables keep a feasible plan, by whatever the slots want that the plan has
    by_tables : (wants : List ℕ) → ((slot : ℕ) → slot < day.counts.slots → get_or wants slot 0 ≤ free_in day.counts.choices free plan slot)
        → Within day.counts.slots plan (tables_rule (entry_at tables) (lightest_at tables) (weight_at tables) day.counts day.maxs free lacks wants domains)
    by_tables wants h = tables_within day plan tables domains domains wants f size looks.filled looks.lightest l w w h

    -- where there are limits, no slot of a feasible plan has a least count that it can't have, and the plan
    -- keeps what the slots want and have room for
    limits-within : Within day.counts.slots plan (limits_leave day.counts day.maxs day.rows tables free lacks domains)
    unfolding limits_leave
    limits-within =
        let wants = wants_of (entry_at tables) day.counts day.rows (first_in day.counts.choices free) lacks domains in
        let rooms = rooms_of day.counts day.rows domains in
        let left = tables_rule (entry_at tables) (lightest_at tables) (weight_at tables) day.counts day.maxs free lacks wants domains in
        let wanted = wants_stand day plan tables domains f size looks.filled w in
        let ll : length left ≡ 64 = tables_length (entry_at tables) (lightest_at tables) (weight_at tables) day.counts day.maxs free lacks wants domains ∙ l in
        rw (not-broken day plan tables domains f size looks.filled w)
        (counts-within day plan tables domains left wants rooms f size looks.filled ll w (by_tables wants wanted) wanted
        (rooms_stand day plan tables domains f size looks.filled w))

    weighed-within : Within day.counts.slots plan (weighed day.counts day.maxs day.rows tables domains)
    unfolding weighed
    weighed-within =
        rw (le-leb day.counts.choices 64 looks.few-choices, lacks-in day.counts day.maxs domains looks.few-choices looks.maxs-fit looks.few-slots)
        (go (has_limit day.rows))
      where
        none_wanted : (slot : ℕ) → slot < day.counts.slots → get_or {A = ℕ} (replicate 24 0) slot 0 ≤ free_in day.counts.choices free plan slot
        none_wanted slot h = rw (get_or-replicate {A = ℕ} 24 slot 0 0 (omega (arith, h, looks.few-slots))) (omega arith)

        go : (b : Bool)
            → Within day.counts.slots plan (cond b (limits_leave day.counts day.maxs day.rows tables free lacks domains)
            (tables_rule (entry_at tables) (lightest_at tables) (weight_at tables) day.counts day.maxs free lacks (replicate 24 0) domains))
        go true = limits-within
        go false = by_tables (replicate 24 0) none_wanted

  pub looked-within : (choice : ℕ) (domains : List ℕ) → choice ≤ day.counts.choices → length domains ≡ 64 → Within day.counts.slots plan domains
      → Within day.counts.slots plan (looked_ahead day.counts day.mins day.maxs day.rows tables (take choice plan) choice domains)
  unfolding looked_ahead kept_if_alive
  looked-within choice domains h l w =
      let last = decided day.counts.slots plan choice domains in
      let by-counts = weighed day.counts day.maxs day.rows tables last in
      let summed = slots_rule day.counts day.mins day.maxs by-counts in
      let ll : length last ≡ 64 = decided-length day.counts.slots plan choice domains ∙ l in
      let wl : Within day.counts.slots plan last =
      decided-within day.counts.slots plan choice domains looks.few-slots (omega (arith, h, l, looks.few-choices)) w in
      let lc : length by-counts ≡ 64 = weighed-length day.counts day.maxs day.rows tables last ll in
      let ls : length summed ≡ 64 = slots_length day.counts day.mins day.maxs by-counts ∙ lc in
      let wc : Within day.counts.slots plan by-counts = weighed-within last ll wl in
      let ws : Within day.counts.slots plan summed = slots-within day plan by-counts f size lc wc in
      rw (looked-start day.counts day.mins day.maxs day.rows tables plan choice domains (omega (arith, h, size)))
      (rw (within-alive day.counts.slots plan day.counts.choices by-counts size wc)
      (alive-within day.counts.slots plan day.counts.choices (rows_rule day.counts day.rows summed) size
      (rows-within day plan summed f size looks.few-slots ls ws)))

  -- a feasible plan stays within what the walk sees at its starts
  pub seen-within : (choice : ℕ) (domains : List ℕ) → choice < day.counts.choices → length domains ≡ 64 → Within day.counts.slots plan domains
      → Within day.counts.slots plan (seen_at day.counts day.mins day.maxs day.rows tables (take choice plan) choice domains)
  unfolding seen_at
  seen-within choice domains h l w = go (near_end day.counts.choices choice)
    where
      go : (b : Bool) → Within day.counts.slots plan (cond b domains (looked_ahead day.counts day.mins day.maxs day.rows tables (take choice plan) choice domains))
      go true = w
      go false = looked-within choice domains (omega (arith, h)) l w

  -- at a start of a feasible plan the plan's next place is open, if it fits and the decided rows leave it
  pub opened-within : (choice : ℕ) (rows start sums fills : List ℕ) (domain : ℕ) → choice < day.counts.choices
      → ((slot : ℕ) → get_or fills slot 0 ≡ sum_in day.maxs (take choice plan) slot)
      → has (rows_leave day.counts.slots choice start rows domain) (place_number day.counts.slots (slot_of plan choice)) ≡ true
      → place_fits day.counts.slots day.counts.choosers day.mins day.optional sums choice (slot_of plan choice) ≡ true
      → has (opened_at day.counts day.mins day.maxs day.optional rows tables start choice sums fills domain) (place_number day.counts.slots (slot_of plan choice)) ≡ true
  unfolding opened_at open_at
  opened-within choice rows start sums fills domain h s r fits =
      let at = place_number day.counts.slots (slot_of plan choice) in
      let left = rows_leave day.counts.slots choice start rows domain in
      let back : place_of day.counts.slots at ≡ slot_of plan choice =
      place-back day.counts.slots (slot_of plan choice) looks.few-slots (feasible-place day plan f choice (omega (arith, h, size))) in
      open_has (entry_at tables) (weight_at tables) day.counts day.mins day.maxs day.optional choice sums fills left looks.few-slots at
      (number_le day.counts.slots (slot_of plan choice))
      ∙ and_both (place_fits day.counts.slots day.counts.choosers day.mins day.optional sums choice (place_of day.counts.slots at))
      (has (enough_places (entry_at tables) (weight_at tables) day.counts choice (get_or day.maxs choice 0) fills left) at)
      (ap (place_fits day.counts.slots day.counts.choosers day.mins day.optional sums choice) back ∙ fits)
      (enough-keeps day plan tables f size looks.filled looks.few-choices looks.few-choosers choice fills left h s r)
