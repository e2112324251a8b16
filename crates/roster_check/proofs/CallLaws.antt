-- The roster check as a call: what its judges leave to its passes, and a law for each way through it.
use mathlib.Core.Path.{◌≡◌, refl, sym, ◌∙◌}
use mathlib.Core.Bool.{Bool, true, false, ◌&&◌, ◌||◌, false≢true}
use mathlib.Core.List.{List, []}
use Prim.Native.Nat.{ℕ, ◌*◌, ◌≤◌}
use native.Mathlib.Nat.{mul-le-mul_right}
use native.Mathlib.Omega.{arith}
use borrow.Author.Tests.{lt-ltb, leb-true, eqb-true, ltb-true}
use lib.Dec.{eqb, ltb, leb}
use lib.ListN.{length, get_or}
use Rattle.base_lists.specs.All.{all_of, all_at_most}
use Rattle.base_lists.specs.Below.{all_below}
use Rattle.base_lists.proofs.All.{all_of-each, each-all_of}
use Rattle.base_lists.proofs.Below.{and_left, and_right}
use Rattle.day_rows.specs.Check.{counts_in_range, most_rows}
use Rattle.day_rows.specs.Told.{done, refused, unless}
use Rattle.day_rows.specs.declared.check.Takes.TheVariants.{Scheduling, Assignment}
use Rattle.day_rows.proofs.ToldLaws.{unless-done}
use Rattle.day_rows.proofs.CountLaws.{Within, within}
use Rattle.plan_check.specs.Check.{cell_fits}
use Rattle.plan_check.specs.Rows.{keeps_rows}
use Rattle.plan_check.specs.steps.Kept.{keeps_every}
use Rattle.plan_check.proofs.KeptLaws.{every-rows}
use Rattle.day_rows.specs.Levels.{levels_rise, last_level}
use Rattle.roster_rows.specs.Cells.{cells_of}
use Rattle.roster_rows.specs.Rows.{roster_keeps}
use Rattle.roster_rows.specs.steps.Shapes.{Seated}
use Rattle.roster_rows.proofs.KindLaws.{rows_decide}
use Rattle.roster_check.specs.Sheet.{Sheet, sheet_of, row_counts}
use Rattle.roster_rows.specs.Seats.{slots_apart, names_scheduled, cells_judged}
use Rattle.roster_check.specs.Roster.{seats_fit}
use Rattle.roster_check.specs.Passes.{roster, passes, highest}
use Rattle.roster_check.specs.Check.{scored, roster_counts_in_range, roster_lengths_fit, lists_judged, rows_judged, roster_check_of}
use Rattle.roster_check.specs.steps.Shapes.{Judged}
use Rattle.roster_check.specs.declared.roster_check.RosterCounts.{RosterCounts}

-- what counts in range say of each count
pub record Ranged (counts : RosterCounts) : Type 0 where
  pub rows : Within (row_counts counts) Scheduling
  pub some_level : 1 ≤ counts.levels
  pub few-levels : counts.levels ≤ 64
  pub few-assignment : counts.assignment_rows ≤ 1024

pub ranged : (counts : RosterCounts) → roster_counts_in_range counts ≡ true → Ranged counts
unfolding roster_counts_in_range
ranged counts h =
    let a = counts_in_range (row_counts counts) Scheduling in
    let b = leb 1 counts.levels in
    let c = leb counts.levels 64 in
    let d = leb counts.assignment_rows (most_rows Assignment) in
    let abc = and_left (a && b && c) d h in
    let ab = and_left (a && b) c abc in
    record {
      rows = within (row_counts counts) Scheduling (and_left a b ab);
      some_level = leb-true _ _ (and_right a b ab);
      few-levels = leb-true _ _ (and_right (a && b) c abc);
      few-assignment = leb-true _ _ (and_right (a && b && c) d h);
    }

-- a product of two counts is small
pub few_product : (a b : ℕ) → a ≤ 200 → b ≤ 64 → a * b ≤ 12800
few_product a b p q =
    let m : a * b ≤ 200 * b = mul-le-mul_right b p in
    omega (arith, m, q)

-- what lengths that fit say of each length
pub record Fitting (sheet : Sheet) : Type 0 where
  pub mins : length sheet.mins ≡ sheet.counts.choices
  pub maxs : length sheet.maxs ≡ sheet.counts.choices
  pub levels : length sheet.levels ≡ sheet.counts.levels
  pub preferences : length sheet.preferences ≡ sheet.counts.choosers * sheet.counts.choices
  pub rows : length sheet.rows ≡ sheet.counts.rows
  pub assignment : length sheet.assignment_rows ≡ sheet.counts.assignment_rows
  pub plan : length sheet.plan ≡ sheet.counts.choices
  pub roster : length sheet.roster ≡ sheet.counts.choosers * sheet.counts.slots

pub fitting : (sheet : Sheet) → roster_lengths_fit sheet ≡ true → Fitting sheet
unfolding roster_lengths_fit
fitting sheet h =
    let a = eqb (length sheet.mins) sheet.counts.choices in
    let b = eqb (length sheet.maxs) sheet.counts.choices in
    let c = eqb (length sheet.levels) sheet.counts.levels in
    let d = eqb (length sheet.preferences) (sheet.counts.choosers * sheet.counts.choices) in
    let e = eqb (length sheet.rows) sheet.counts.rows in
    let f = eqb (length sheet.assignment_rows) sheet.counts.assignment_rows in
    let g = eqb (length sheet.plan) sheet.counts.choices in
    let i = eqb (length sheet.roster) (sheet.counts.choosers * sheet.counts.slots) in
    let h7 = and_left (a && b && c && d && e && f && g) i h in
    let h6 = and_left (a && b && c && d && e && f) g h7 in
    let h5 = and_left (a && b && c && d && e) f h6 in
    let h4 = and_left (a && b && c && d) e h5 in
    let h3 = and_left (a && b && c) d h4 in
    let h2 = and_left (a && b) c h3 in
    record {
      mins = eqb-true _ _ (and_left a b h2);
      maxs = eqb-true _ _ (and_right a b h2);
      levels = eqb-true _ _ (and_right (a && b) c h3);
      preferences = eqb-true _ _ (and_right (a && b && c) d h4);
      rows = eqb-true _ _ (and_right (a && b && c && d) e h5);
      assignment = eqb-true _ _ (and_right (a && b && c && d && e) f h6);
      plan = eqb-true _ _ (and_right (a && b && c && d && e && f) g h7);
      roster = eqb-true _ _ (and_right (a && b && c && d && e && f && g) i h);
    }

-- what is known of a sheet that isn't refused by 1 to 4
pub record Listed (sheet : Sheet) : Type 0 where
  pub counts : Ranged sheet.counts
  pub lengths : Fitting sheet
  pub rising : levels_rise sheet.levels ≡ true
  pub most : all_at_most (last_level sheet.levels) sheet.preferences ≡ true

module _ (sheet : Sheet) where
  pub listed : done tt ≡ lists_judged sheet → Listed sheet
  unfolding lists_judged
  listed e =
      let rest-4 = unless (all_at_most (last_level sheet.levels) sheet.preferences) 4 (done tt) in
      let rest-3 = unless (levels_rise sheet.levels) 3 rest-4 in
      let a = unless-done (roster_counts_in_range sheet.counts) 1 (unless (roster_lengths_fit sheet) 2 rest-3) (sym e) in
      let b = unless-done (roster_lengths_fit sheet) 2 rest-3 a.1 in
      let c = unless-done (levels_rise sheet.levels) 3 rest-4 b.1 in
      let d = unless-done (all_at_most (last_level sheet.levels) sheet.preferences) 4 (done tt) c.1 in
      record { counts = ranged sheet.counts a.0; lengths = fitting sheet b.0; rising = c.0; most = d.0 }

  pub seated : Listed sheet → Seated sheet.counts.slots sheet.counts.choosers sheet.roster
  seated l =
      record { few-slots = l.counts.rows.slots; few-choosers = l.counts.rows.choosers; cells = l.lengths.roster }

  -- the two lists of rows are short enough for the place that 5 carries
  pub few-rows : Listed sheet → length sheet.rows ≤ 1024
  few-rows l = omega (arith, l.lengths.rows, l.counts.rows.rows)

  pub few-assignment-rows : Listed sheet → length sheet.assignment_rows ≤ 1024
  few-assignment-rows l = omega (arith, l.lengths.assignment, l.counts.few-assignment)

-- cells that aren't refused by 9 and 10 fit and name scheduled choices
pub places-fit : (slots : ℕ) (plan roster : List ℕ) → done tt ≡ cells_judged slots plan roster
    → (all_of (cell_fits slots) plan ≡ true) × (all_of (names_scheduled plan) roster ≡ true)
unfolding cells_judged
places-fit slots plan roster e =
    let a = unless-done (all_of (cell_fits slots) plan) 9 (unless (all_of (names_scheduled plan) roster) 10 (done tt)) (sym e) in
    let b = unless-done (all_of (names_scheduled plan) roster) 10 (done tt) a.1 in
    (a.0, b.0)

module _ (sheet : Sheet) where
  pub judged : Listed sheet → done tt ≡ cells_judged sheet.counts.slots sheet.plan sheet.roster
      → Judged sheet
  judged l e =
      record {
        few-choices = l.counts.rows.choices;
        mins-fit = l.lengths.mins;
        maxs-fit = l.lengths.maxs;
        plan-fits = l.lengths.plan;
        seated = seated sheet l;
        places = (places-fit sheet.counts.slots sheet.plan sheet.roster e).0;
      }

-- a place that is one of the day's slots is one of 24
module _ (slots : ℕ) (few : slots ≤ 24) where
  cell_wider : (cell : ℕ) → cell_fits slots cell ≡ true → cell_fits 24 cell ≡ true
  unfolding cell_fits
  cell_wider cell h = go (eqb cell 255) (ltb cell slots) refl refl h
    where
      go : (a b : Bool) → eqb cell 255 ≡ a → ltb cell slots ≡ b → (a || b) ≡ true → (eqb cell 255 || ltb cell 24) ≡ true
      go true b p q h = rw p
      go false true p q h = rw (p, lt-ltb cell 24 (omega (arith, ltb-true cell slots q, few)))
      go false false p q h = absurd (false≢true h)

  pub places_wider : (plan : List ℕ) → all_of (cell_fits slots) plan ≡ true → all_of (cell_fits 24) plan ≡ true
  places_wider plan h = each-all_of (cell_fits 24) plan 0 λ k hk. cell_wider (get_or plan k 0) (all_of-each (cell_fits slots) plan 0 h k hk)

-- the passes over slots, seats and rows, one after the other
module _ (sheet : Sheet) where
  pub passes-apart : all_below sheet.counts.choosers (λ chooser. slots_apart sheet.plan (cells_of sheet.counts.slots sheet.roster chooser)) ≡ false
      → false ≡ passes sheet
  unfolding passes
  passes-apart f = rw f

  module _ (j : Judged sheet)
      (a : all_below sheet.counts.choosers (λ chooser. slots_apart sheet.plan (cells_of sheet.counts.slots sheet.roster chooser)) ≡ true) where
    pub passes_seats : all_below sheet.counts.choices (seats_fit sheet.mins sheet.maxs sheet.plan sheet.roster) ≡ false → false ≡ passes sheet
    unfolding passes
    passes_seats f = rw (a, f)

    module _ (s : all_below sheet.counts.choices (seats_fit sheet.mins sheet.maxs sheet.plan sheet.roster) ≡ true) where
      rows_of : {b : Bool} → keeps_every sheet.plan sheet.rows ≡ b → keeps_rows sheet.plan sheet.rows ≡ b
      rows_of e =
          every-rows sheet.plan sheet.rows (omega (arith, j.plan-fits, j.few-choices)) (places_wider sheet.counts.slots j.seated.few-slots sheet.plan j.places) ∙ e

      pub passes-rows : keeps_every sheet.plan sheet.rows ≡ false → false ≡ passes sheet
      unfolding passes
      passes-rows f = rw (a, s, rows_of f)

      pub passes-assignment : keeps_every sheet.plan sheet.rows ≡ true
          → roster_keeps (roster sheet) sheet.assignment_rows ≡ passes sheet
      unfolding passes
      passes-assignment t =
          rw (a, s, rows_of t)
          (sym (rows_decide (roster sheet) sheet.assignment_rows
          j.few-choices j.seated.few-slots j.seated.few-choosers j.seated.cells))

-- whether a roster passes has nothing to do with levels and preferences
pub passes_any : (counts : RosterCounts) (mins maxs levels preferences rows assignment_rows plan roster : List ℕ)
    → passes (sheet_of counts mins maxs [] [] rows assignment_rows plan roster) ≡ passes (sheet_of counts mins maxs levels preferences rows assignment_rows plan roster)
unfolding passes
passes_any counts mins maxs levels preferences rows assignment_rows plan roster = refl

-- the call: each of its refusals, and its answer
module _ (sheet : Sheet) where
  pub call_lists : {number : ℕ} {carried : List ℕ} → refused number carried ≡ lists_judged sheet → refused number carried ≡ roster_check_of sheet
  unfolding roster_check_of
  call_lists e = rw (sym e)

  module _ (l : done tt ≡ lists_judged sheet) where
    pub call_rows : {number : ℕ} {carried : List ℕ} → refused number carried ≡ rows_judged (row_counts sheet.counts) sheet.rows sheet.assignment_rows
        → refused number carried ≡ roster_check_of sheet
    unfolding roster_check_of
    call_rows e = rw (sym l, sym e)

    module _ (r : done tt ≡ rows_judged (row_counts sheet.counts) sheet.rows sheet.assignment_rows) where
      pub call_cells : {number : ℕ} {carried : List ℕ} → refused number carried ≡ cells_judged sheet.counts.slots sheet.plan sheet.roster
          → refused number carried ≡ roster_check_of sheet
      unfolding roster_check_of
      call_cells e = rw (sym l, sym r, sym e)

      pub call_answers : done tt ≡ cells_judged sheet.counts.slots sheet.plan sheet.roster → {b : Bool} {h : ℕ} → b ≡ passes sheet → h ≡ highest sheet
          → done (scored b h) ≡ roster_check_of sheet
      unfolding roster_check_of
      call_answers e p q = rw (sym l, sym r, sym e, p, q)
