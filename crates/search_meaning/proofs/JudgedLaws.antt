-- The search's refusals, a law for each way through their functions, and what isn't refused.
use mathlib.Core.Path.{◌≡◌, refl, sym, ◌∙◌, ap}
use mathlib.Core.Bool.{Bool, true, false, ◌&&◌}
use mathlib.Core.List.{List, []}
use Prim.Native.Nat.{ℕ, ◌*◌, ◌≤◌}
use borrow.Author.Tests.{eq-eqb, ne_eqb, eqb-true, leb-true}
use lib.Dec.{eqb, leb}
use lib.ListN.{length}
use Rattle.base_lists.specs.All.{all_at_most}
use Rattle.base_lists.proofs.Below.{and_left, and_right}
use Rattle.day_rows.specs.Check.{counts_in_range, rows_judged}
use Rattle.day_rows.specs.declared.check.Counts.{Counts}
use Rattle.day_rows.specs.declared.check.Takes.TheVariants.{Scheduling}
use Rattle.day_rows.specs.Told.{good, refuse, unless, and_then}
use Rattle.day_rows.proofs.ToldLaws.{unless-done, then_done}
use Rattle.day_rows.proofs.CountLaws.{Within, within}
use Rattle.day_rows.specs.Levels.{levels_in_range, levels_rise, last_level}
use Rattle.plan_check.specs.Feasible.{lengths_fit}
use Rattle.plan_check.specs.Check.{flags_judged}
use Rattle.sets_analysis.proofs.DaySteps.{product_few}
use Rattle.search_map.specs.Map.{Map, map_keeps}
use Rattle.search_map.specs.Calls.{map_full}
use Rattle.search_order.specs.Order.{orders_keep}
use Rattle.search_meaning.specs.Given.{Given, given_of, row_counts}
use Rattle.search_meaning.specs.Judged.{search_in_range, search_lengths, day_judged, lent_judged}
use Rattle.search_meaning.specs.steps.Lengths.{day_lengths, row_lengths}
use Rattle.search_meaning.specs.declared.counts.SearchCounts.{SearchCounts}

-- ---- the counts' ranges

module _ (counts : SearchCounts) where
  pub range-day : counts_in_range (row_counts counts) Scheduling ≡ false → false ≡ search_in_range counts
  unfolding search_in_range
  range-day h = rw h

  pub range-levels : counts_in_range (row_counts counts) Scheduling ≡ true → levels_in_range counts.levels ≡ false → false ≡ search_in_range counts
  unfolding search_in_range
  range-levels a h = rw (a, h)

  pub range-numbers : counts_in_range (row_counts counts) Scheduling ≡ true → levels_in_range counts.levels ≡ true → leb counts.numbers 10240 ≡ search_in_range counts
  unfolding search_in_range
  range-numbers a b = rw (a, b)

  -- 'Choices C 0..64, slots S 0..24, choosers H 0..200, levels L 1..64, .. reduced rows 0..1,024, .. map
  -- numbers 0..10,240'
  pub record InRange : Type 0 where
    pub day : Within (row_counts counts) Scheduling
    pub level : 1 ≤ counts.levels
    pub levels : counts.levels ≤ 64
    pub numbers : counts.numbers ≤ 10240

  pub in_range : search_in_range counts ≡ true → InRange
  unfolding search_in_range levels_in_range
  in_range h =
      let day = counts_in_range (row_counts counts) Scheduling in
      let low = leb 1 counts.levels in
      let high = leb counts.levels 64 in
      let both = and_left (day && (low && high)) (leb counts.numbers 10240) h in
      record {
        day = within (row_counts counts) Scheduling (and_left day (low && high) both);
        level = leb-true _ _ (and_left low high (and_right day (low && high) both));
        levels = leb-true _ _ (and_right low high (and_right day (low && high) both));
        numbers = leb-true _ _ (and_right (day && (low && high)) (leb counts.numbers 10240) h);
      }

  pub counted : search_in_range counts ≡ true → counts_in_range (row_counts counts) Scheduling ≡ true
  unfolding search_in_range
  counted h =
      let day = counts_in_range (row_counts counts) Scheduling in
      let levels = levels_in_range counts.levels in
      and_left day levels (and_left (day && levels) (leb counts.numbers 10240) h)

  -- a preference for each chooser and choice
  pub few-preferences : search_in_range counts ≡ true → counts.choosers * counts.choices ≤ 200 * 64
  few-preferences h =
      let w = (in_range h).day in
      product_few counts.choosers counts.choices 200 64 w.choosers w.choices

-- ---- the lengths, one after the other

module _ (given : Given) (before : List ℕ) where
  -- some list hasn't an entry for each choice: the lengths are wrong
  pub entries_differ : lengths_fit given.counts.choices given.mins given.maxs given.optional before ≡ false → false ≡ day_lengths given before
  unfolding day_lengths
  entries_differ h = rw h

  module _ (a : lengths_fit given.counts.choices given.mins given.maxs given.optional before ≡ true) where
    pub levels_differ : (length given.levels ≡ given.counts.levels → ⊥) → false ≡ day_lengths given before
    unfolding day_lengths
    levels_differ n = rw (a, ne_eqb _ _ n)

    pub preferences_decide : length given.levels ≡ given.counts.levels
        → eqb (length given.preferences) (given.counts.choosers * given.counts.choices) ≡ day_lengths given before
    unfolding day_lengths
    preferences_decide e = rw (a, eq-eqb _ _ e)

module _ (given : Given) where
  pub rows_differ : (length given.rows ≡ given.counts.rows → ⊥) → false ≡ row_lengths given
  unfolding row_lengths
  rows_differ n = rw (ne_eqb _ _ n)

  pub map-short : length given.rows ≡ given.counts.rows → map_full given.map ≡ false → false ≡ row_lengths given
  unfolding row_lengths
  map-short e h = rw (eq-eqb _ _ e, h)

  pub whole-decides : length given.rows ≡ given.counts.rows → map_full given.map ≡ true → eqb (length given.whole) given.counts.rows ≡ row_lengths given
  unfolding row_lengths
  whole-decides e h = rw (eq-eqb _ _ e, h)

-- ---- the day: 1, 2, 3, 4, 5

module _ (given : Given) (before : List ℕ) where
  abbrev of_day : Bool
  of_day = day_lengths given before

  abbrev of_rows : Bool
  of_rows = row_lengths given

  -- both parts of the test of lengths make the test
  both-lengths : search_lengths given before ≡ (of_day && of_rows)
  unfolding search_lengths day_lengths row_lengths
  both-lengths =
      joined
      (lengths_fit given.counts.choices given.mins given.maxs given.optional before && eqb (length given.levels) given.counts.levels && eqb (length given.preferences) (given.counts.choosers * given.counts.choices))
      (eqb (length given.rows) given.counts.rows)
      (map_full given.map)
      (eqb (length given.whole) given.counts.rows)
    where
      joined : (a b c d : Bool) → (a && b && c && d) ≡ (a && (b && c && d))
      joined true b c d = refl
      joined false b c d = refl

  pub day-count : search_in_range given.counts ≡ false → refuse 1 ≡ day_judged given before
  unfolding day_judged
  day-count h = rw h

  module _ (c : search_in_range given.counts ≡ true) where
    pub day-length : of_day ≡ false → refuse 2 ≡ day_judged given before
    unfolding day_judged
    day-length h = rw (c, both-lengths, h)

    pub day-rows-length : of_day ≡ true → of_rows ≡ false → refuse 2 ≡ day_judged given before
    unfolding day_judged
    day-rows-length a h = rw (c, both-lengths, a, h)

    module _ (a : of_day ≡ true) (b : of_rows ≡ true) where
      pub day-levels : levels_rise given.levels ≡ false → refuse 3 ≡ day_judged given before
      unfolding day_judged
      day-levels h = rw (c, both-lengths, a, b, h)

      module _ (l : levels_rise given.levels ≡ true) {last : ℕ} (e : last ≡ last_level given.levels) where
        pub day_preference : all_at_most last given.preferences ≡ false → refuse 4 ≡ day_judged given before
        unfolding day_judged
        day_preference h = rw (c, both-lengths, a, b, l, sym e, h)

        pub day-rows : {counts : Counts} → all_at_most last given.preferences ≡ true → counts ≡ row_counts given.counts
            → rows_judged counts Scheduling given.rows ≡ day_judged given before
        unfolding day_judged
        day-rows p q = ap (λ (k : Counts). rows_judged k Scheduling given.rows) q ∙ rw (c, both-lengths, a, b, l, sym e, p)

-- ---- what is lent beside it: 8, 13, 14

module _ (given : Given) where
  pub lent-orders : orders_keep given.counts.choices given.orders ≡ false → refuse 8 ≡ lent_judged given
  unfolding lent_judged
  lent-orders h = rw h

  module _ (o : orders_keep given.counts.choices given.orders ≡ true) where
    pub lent-flags : all_at_most 1 given.optional ≡ false → refuse 13 ≡ lent_judged given
    unfolding lent_judged flags_judged
    lent-flags h = rw (o, h)

    module _ (f : all_at_most 1 given.optional ≡ true) where
      pub lent_map : map_keeps given.counts.choices given.counts.rows given.counts.numbers given.map given.whole ≡ false → refuse 14 ≡ lent_judged given
      unfolding lent_judged flags_judged
      lent_map h = rw (o, f, h)

      pub lent-good : map_keeps given.counts.choices given.counts.rows given.counts.numbers given.map given.whole ≡ true → good ≡ lent_judged given
      unfolding lent_judged flags_judged
      lent-good h = rw (o, f, h)

-- ---- neither looks at the other's lists

module _ (counts : SearchCounts) (mins maxs optional levels preferences rows : List ℕ) (map : Map) (whole orders draws before : List ℕ) where
  pub day-alone : day_judged (given_of counts mins maxs optional levels preferences rows map whole [] []) before
      ≡ day_judged (given_of counts mins maxs optional levels preferences rows map whole orders draws) before
  unfolding day_judged search_lengths
  day-alone = refl

  pub lent-alone : lent_judged (given_of counts [] [] optional [] [] [] map whole orders [])
      ≡ lent_judged (given_of counts mins maxs optional levels preferences rows map whole orders draws)
  unfolding lent_judged
  lent-alone = refl

-- ---- what isn't refused

-- a day that isn't refused
pub record DayKeeps (given : Given) (before : List ℕ) : Type 0 where
  pub in_range : InRange given.counts
  pub counts : counts_in_range (row_counts given.counts) Scheduling ≡ true
  pub entries : lengths_fit given.counts.choices given.mins given.maxs given.optional before ≡ true
  pub mins : length given.mins ≡ given.counts.choices
  pub maxs : length given.maxs ≡ given.counts.choices
  pub optional : length given.optional ≡ given.counts.choices
  pub plan : length before ≡ given.counts.choices
  pub levels : length given.levels ≡ given.counts.levels
  pub preferences : length given.preferences ≡ given.counts.choosers * given.counts.choices
  pub rows : length given.rows ≡ given.counts.rows
  pub full : map_full given.map ≡ true
  pub whole : length given.whole ≡ given.counts.rows
  pub rise : levels_rise given.levels ≡ true
  pub at-most-last : all_at_most (last_level given.levels) given.preferences ≡ true
  pub rows-keep : rows_judged (row_counts given.counts) Scheduling given.rows ≡ good

-- what is lent beside a day and isn't refused
pub record LentKeeps (given : Given) : Type 0 where
  pub orders : orders_keep given.counts.choices given.orders ≡ true
  pub flags : all_at_most 1 given.optional ≡ true
  pub map : map_keeps given.counts.choices given.counts.rows given.counts.numbers given.map given.whole ≡ true

module _ (choices : ℕ) (mins maxs optional before : List ℕ) where
  -- each list that has an entry for each choice
  each-length : lengths_fit choices mins maxs optional before ≡ true
      → (length mins ≡ choices) × (length maxs ≡ choices) × (length optional ≡ choices) × (length before ≡ choices)
  unfolding lengths_fit
  each-length h =
      let a = eqb (length mins) choices in
      let b = eqb (length maxs) choices in
      let c = eqb (length optional) choices in
      let d = eqb (length before) choices in
      let abc = and_left (a && b && c) d h in
      let ab = and_left (a && b) c abc in
      (eqb-true _ _ (and_left a b ab), eqb-true _ _ (and_right a b ab), eqb-true _ _ (and_right (a && b) c abc), eqb-true _ _ (and_right (a && b && c) d h))

module _ (given : Given) (before : List ℕ) where
  pub day-keeps : day_judged given before ≡ good → DayKeeps given before
  unfolding day_judged search_lengths
  day-keeps h =
      let entries = lengths_fit given.counts.choices given.mins given.maxs given.optional before in
      let levels = eqb (length given.levels) given.counts.levels in
      let preferences = eqb (length given.preferences) (given.counts.choosers * given.counts.choices) in
      let rows = eqb (length given.rows) given.counts.rows in
      let full = map_full given.map in
      let whole = eqb (length given.whole) given.counts.rows in
      let judged = rows_judged (row_counts given.counts) Scheduling given.rows in
      let kept = all_at_most (last_level given.levels) given.preferences in
      let fourth = unless kept 4 judged in
      let third = unless (levels_rise given.levels) 3 fourth in
      let a = unless-done (search_in_range given.counts) 1 (unless (entries && levels && preferences && rows && full && whole) 2 third) h in
      let b = unless-done (entries && levels && preferences && rows && full && whole) 2 third a.1 in
      let c = unless-done (levels_rise given.levels) 3 fourth b.1 in
      let d = unless-done kept 4 judged c.1 in
      let b5 = and_left (entries && levels && preferences && rows && full) whole b.0 in
      let b4 = and_left (entries && levels && preferences && rows) full b5 in
      let b3 = and_left (entries && levels && preferences) rows b4 in
      let b2 = and_left (entries && levels) preferences b3 in
      let e = each-length given.counts.choices given.mins given.maxs given.optional before (and_left entries levels b2) in
      record {
        in_range = in_range given.counts a.0;
        counts = counted given.counts a.0;
        entries = and_left entries levels b2;
        mins = e.0;
        maxs = e.1;
        optional = e.2;
        plan = e.3;
        levels = eqb-true _ _ (and_right entries levels b2);
        preferences = eqb-true _ _ (and_right (entries && levels) preferences b3);
        rows = eqb-true _ _ (and_right (entries && levels && preferences) rows b4);
        full = and_right (entries && levels && preferences && rows) full b5;
        whole = eqb-true _ _ (and_right (entries && levels && preferences && rows && full) whole b.0);
        rise = c.0;
        at-most-last = d.0;
        rows-keep = d.1;
      }

module _ (given : Given) where
  pub lent-keeps : lent_judged given ≡ good → LentKeeps given
  unfolding lent_judged flags_judged
  lent-keeps h =
      let maps = map_keeps given.counts.choices given.counts.rows given.counts.numbers given.map given.whole in
      let last = unless maps 14 good in
      let a = unless-done (orders_keep given.counts.choices given.orders) 8 (and_then (unless (all_at_most 1 given.optional) 13 good) last) h in
      let b = then_done (unless (all_at_most 1 given.optional) 13 good) last a.1 in
      record {
        orders = a.0;
        flags = (unless-done (all_at_most 1 given.optional) 13 good b.0).0;
        map = (unless-done maps 14 good b.1).0;
      }
