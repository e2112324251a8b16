-- The roster check's refusals, a law for each way through their functions.
use mathlib.Core.Path.{◌≡◌, sym, ◌∙◌, ap}
use mathlib.Core.Bool.{Bool, true, false}
use mathlib.Core.List.{List, [], ◌∷◌}
use Prim.Native.Nat.{ℕ, ◌+◌, ◌*◌, ◌≤◌, ◌<◌}
use native.Mathlib.Omega.{arith}
use borrow.Author.Tests.{lt-ltb, le-ltb, le-leb, lt-leb, eq-eqb, ne_eqb}
use lib.Dec.{eqb, leb}
use lib.ListN.{length, get_or, drop}
use Rattle.base_lists.specs.All.{all_at_most}
use Rattle.base_lists.specs.First.{first_failing}
use Rattle.base_lists.proofs.First.{first_passes, first-fails}
use Rattle.day_rows.specs.Check.{counts_in_range, row_keeps}
use Rattle.day_rows.specs.Told.{Told, done, refused, refuse}
use Rattle.day_rows.specs.declared.check.Counts.{Counts}
use Rattle.day_rows.specs.declared.check.Takes.{Takes}
use Rattle.day_rows.specs.declared.check.Takes.TheVariants.{Scheduling, Assignment}
use Rattle.day_rows.specs.Levels.{levels_rise, last_level}
use Rattle.roster_check.specs.Sheet.{Sheet, row_counts}
use Rattle.roster_check.specs.Check.{roster_counts_in_range, roster_lengths_fit, lists_judged, list_judged, rows_judged}
use Rattle.roster_check.specs.declared.roster_check.RosterCounts.{RosterCounts}

-- the counts, one test after the other
module _ (counts : RosterCounts) where
  pub range-rows : counts_in_range (row_counts counts) Scheduling ≡ false → false ≡ roster_counts_in_range counts
  unfolding roster_counts_in_range
  range-rows f = rw f

  module _ (r : counts_in_range (row_counts counts) Scheduling ≡ true) where
    pub range_no_level : counts.levels < 1 → false ≡ roster_counts_in_range counts
    unfolding roster_counts_in_range
    range_no_level h = rw (r, lt-leb 1 counts.levels h)

    module _ (o : 1 ≤ counts.levels) where
      pub range-levels : 64 < counts.levels → false ≡ roster_counts_in_range counts
      unfolding roster_counts_in_range
      range-levels h = rw (r, le-leb 1 counts.levels o, lt-leb _ _ h)

      pub range-decides : counts.levels ≤ 64 → leb counts.assignment_rows 1024 ≡ roster_counts_in_range counts
      unfolding roster_counts_in_range
      range-decides h = rw (r, le-leb 1 counts.levels o, le-leb _ _ h)

-- the lengths, one test after the other
module _ (sheet : Sheet) where
  pub length-mins : (length sheet.mins ≡ sheet.counts.choices → ⊥) → false ≡ roster_lengths_fit sheet
  unfolding roster_lengths_fit
  length-mins n = rw (ne_eqb _ _ n)

  module _ (a : length sheet.mins ≡ sheet.counts.choices) where
    pub length-maxs : (length sheet.maxs ≡ sheet.counts.choices → ⊥) → false ≡ roster_lengths_fit sheet
    unfolding roster_lengths_fit
    length-maxs n = rw (eq-eqb _ _ a, ne_eqb _ _ n)

    module _ (b : length sheet.maxs ≡ sheet.counts.choices) where
      pub length-levels : (length sheet.levels ≡ sheet.counts.levels → ⊥) → false ≡ roster_lengths_fit sheet
      unfolding roster_lengths_fit
      length-levels n = rw (eq-eqb _ _ a, eq-eqb _ _ b, ne_eqb _ _ n)

      module _ (c : length sheet.levels ≡ sheet.counts.levels) where
        pub length-preferences : (length sheet.preferences ≡ sheet.counts.choosers * sheet.counts.choices → ⊥) → false ≡ roster_lengths_fit sheet
        unfolding roster_lengths_fit
        length-preferences n = rw (eq-eqb _ _ a, eq-eqb _ _ b, eq-eqb _ _ c, ne_eqb _ _ n)

        module _ (d : length sheet.preferences ≡ sheet.counts.choosers * sheet.counts.choices) where
          pub length-rows : (length sheet.rows ≡ sheet.counts.rows → ⊥) → false ≡ roster_lengths_fit sheet
          unfolding roster_lengths_fit
          length-rows n = rw (eq-eqb _ _ a, eq-eqb _ _ b, eq-eqb _ _ c, eq-eqb _ _ d, ne_eqb _ _ n)

          module _ (e : length sheet.rows ≡ sheet.counts.rows) where
            pub length-assignment : (length sheet.assignment_rows ≡ sheet.counts.assignment_rows → ⊥) → false ≡ roster_lengths_fit sheet
            unfolding roster_lengths_fit
            length-assignment n = rw (eq-eqb _ _ a, eq-eqb _ _ b, eq-eqb _ _ c, eq-eqb _ _ d, eq-eqb _ _ e, ne_eqb _ _ n)

            module _ (f : length sheet.assignment_rows ≡ sheet.counts.assignment_rows) where
              pub length-plan : (length sheet.plan ≡ sheet.counts.choices → ⊥) → false ≡ roster_lengths_fit sheet
              unfolding roster_lengths_fit
              length-plan n = rw (eq-eqb _ _ a, eq-eqb _ _ b, eq-eqb _ _ c, eq-eqb _ _ d, eq-eqb _ _ e, eq-eqb _ _ f, ne_eqb _ _ n)

              pub length-decides : length sheet.plan ≡ sheet.counts.choices
                  → eqb (length sheet.roster) (sheet.counts.choosers * sheet.counts.slots) ≡ roster_lengths_fit sheet
              unfolding roster_lengths_fit
              length-decides g = rw (eq-eqb _ _ a, eq-eqb _ _ b, eq-eqb _ _ c, eq-eqb _ _ d, eq-eqb _ _ e, eq-eqb _ _ f, eq-eqb _ _ g)

-- the refusals of counts, lengths, levels and preferences: 1, 2, 3, 4
module _ (sheet : Sheet) where
  pub lists-count : roster_counts_in_range sheet.counts ≡ false → refuse 1 ≡ lists_judged sheet
  unfolding lists_judged
  lists-count f = rw f

  module _ (c : roster_counts_in_range sheet.counts ≡ true) where
    pub lists_length : roster_lengths_fit sheet ≡ false → refuse 2 ≡ lists_judged sheet
    unfolding lists_judged
    lists_length f = rw (c, f)

    module _ (l : roster_lengths_fit sheet ≡ true) where
      pub lists-levels : levels_rise sheet.levels ≡ false → refuse 3 ≡ lists_judged sheet
      unfolding lists_judged
      lists-levels f = rw (c, l, f)

      module _ (r : levels_rise sheet.levels ≡ true) {last : ℕ} (e : last ≡ last_level sheet.levels) {b : Bool} (p : b ≡ all_at_most last sheet.preferences) where
        last-is : b ≡ all_at_most (last_level sheet.levels) sheet.preferences
        last-is = p ∙ ap (λ (n : ℕ). all_at_most n sheet.preferences) e

        pub lists_preference : b ≡ false → refuse 4 ≡ lists_judged sheet
        unfolding lists_judged
        lists_preference f = rw (c, l, r, sym last-is ∙ f)

        pub lists-good : b ≡ true → done tt ≡ lists_judged sheet
        unfolding lists_judged
        lists-good t = rw (c, l, r, sym last-is ∙ t)

-- 5: the search for the first bad row, from place i on
module _ (counts : Counts) (takes : Takes) (before : ℕ) (rows : List ℕ) where
  unfoldable pub ListFrom : ℕ → Type 0
  ListFrom i = first_failing (row_keeps counts takes) rows ≡ i + first_failing (row_keeps counts takes) (drop i rows)

  pub list-start : ListFrom 0
  unfolding ListFrom
  list-start = omega arith

  pub list-next : (i : ℕ) → i < length rows → ListFrom i → row_keeps counts takes (get_or rows i 0) ≡ true → ListFrom (i + 1)
  unfolding ListFrom
  list-next i h f t = f ∙ first_passes (row_keeps counts takes) rows i 0 h t

  pub list_stops : (i : ℕ) → i < length rows → ListFrom i → row_keeps counts takes (get_or rows i 0) ≡ false
      → refused 5 ((before + i) ∷ []) ≡ list_judged counts takes before rows
  unfolding ListFrom list_judged
  list_stops i h f t =
      let e : first_failing (row_keeps counts takes) rows ≡ i = omega (arith, f, first-fails (row_keeps counts takes) rows i 0 h t) in
      rw (e, lt-ltb i (length rows) h)

  pub list-good : (i : ℕ) → length rows ≤ i → ListFrom i → done tt ≡ list_judged counts takes before rows
  unfolding ListFrom list_judged
  list-good i h f = rw (le-ltb (first_failing (row_keeps counts takes) rows) (length rows) (omega (arith, f, h)))

-- 5 of both lists: the search's before the roster's
module _ (counts : Counts) (rows assignment_rows : List ℕ) where
  pub rows-first : {number : ℕ} {carried : List ℕ} → refused number carried ≡ list_judged counts Scheduling 0 rows → refused number carried ≡ rows_judged counts rows assignment_rows
  unfolding rows_judged
  rows-first e = rw (sym e)

  pub rows-second : {answer : Told (Unit {0})} → done tt ≡ list_judged counts Scheduling 0 rows → answer ≡ list_judged counts Assignment (length rows) assignment_rows
      → answer ≡ rows_judged counts rows assignment_rows
  unfolding rows_judged
  rows-second e q = rw (sym e) q

-- the judgement of rows by the counts that the code hands over
pub rows-counts : {counts given : Counts} (rows assignment_rows : List ℕ) {answer : Told (Unit {0})} → given ≡ counts → answer ≡ rows_judged given rows assignment_rows
    → answer ≡ rows_judged counts rows assignment_rows
rows-counts rows assignment_rows q e = e ∙ ap (λ (n : Counts). rows_judged n rows assignment_rows) q
