-- The roster check in plain mathematics: what a roster that passes is, and how many seats it has.
use mathlib.Core.Path.{◌≡◌, refl, sym, ◌∙◌, ap}
use mathlib.Core.Bool.{Bool, true, false, ◌&&◌, ◌||◌, not, cond, false≢true}
use mathlib.Core.List.{List, [], ◌∷◌}
use mathlib.Core.Logic.{◌↔◌}
use Prim.Native.Nat.{ℕ, zero, suc, ◌+◌, ◌*◌, ◌≤◌, ◌<◌}
use native.Mathlib.Decide.{ℕ_discrete, dec_lt}
use native.Mathlib.Nat.{not-suc-le-zero}
use native.Mathlib.Omega.{arith}
use borrow.Author.Tests.{le-leb, leb-true, eq-eqb, ne_eqb, eqb-false, not-true}
use lib.Dec.{eqb, leb}
use lib.ListN.{length, get_or, get_or-eq_default}
use Rattle.base_lists.specs.All.{all_of}
use Rattle.base_lists.specs.Below.{one, all_below, sum_below}
use Rattle.base_lists.specs.Group.{times_in}
use Rattle.base_lists.proofs.All.{all_of-each, each-all_of}
use Rattle.base_lists.proofs.Below.{and_both, and_left, and_right, all-each, each_all}
use Rattle.base_lists.proofs.SumBelow.{sum_ext, sum_zeros}
use Rattle.day_rows.specs.Row.{row_of}
use Rattle.plan_check.specs.Plan.{slot_of, omitted}
use Rattle.plan_check.specs.Rows.{keeps_row, keeps_rows}
use Rattle.roster_rows.specs.Cells.{cells_of}
use Rattle.roster_rows.specs.Rows.{keeps_assignment_row, keeps_assignment_rows}
use Rattle.roster_rows.specs.steps.Shapes.{Seated}
use Rattle.roster_rows.proofs.CellLaws.{cells-many}
use Rattle.roster_rows.proofs.TallyLaws.{one_true, one_false}
use Rattle.day_rows.specs.Told.{Told, done, refused, and_then}
use Rattle.roster_check.specs.Sheet.{Sheet, row_counts}
use Rattle.roster_rows.specs.Seats.{slots_apart, names_scheduled, cells_judged}
use Rattle.roster_check.specs.Roster.{seats_of, seats_fit}
use Rattle.roster_check.specs.Passes.{roster, passes, highest}
use Rattle.roster_check.specs.Check.{scored, lists_judged, rows_judged, roster_check_of}
use Rattle.roster_check.specs.declared.roster_check.Scored.{Scored}
use Rattle.roster_check.proofs.CallLaws.{Listed, listed, seated, places-fit}

-- the slot of the choice that a chooser's cell at index s names
abbrev pub slot_met : Sheet → ℕ → ℕ → ℕ
slot_met sheet chooser s = slot_of sheet.plan (get_or (cells_of sheet.counts.slots sheet.roster chooser) s 0)

-- a roster that passes: no chooser is in one slot twice, each scheduled choice has min to max seats, and
-- every row of both lists is kept
pub record Passing (sheet : Sheet) : Type 0 where
  pub slots : (chooser s t : ℕ) → chooser < sheet.counts.choosers → s < sheet.counts.slots → t < s → slot_met sheet chooser s ≡ slot_met sheet chooser t → ⊥
  pub minimums : (choice : ℕ) → choice < sheet.counts.choices → (slot_of sheet.plan choice ≡ 255 → ⊥) → get_or sheet.mins choice 0 ≤ seats_of sheet.roster choice
  pub maximums : (choice : ℕ) → choice < sheet.counts.choices → (slot_of sheet.plan choice ≡ 255 → ⊥) → seats_of sheet.roster choice ≤ get_or sheet.maxs choice 0
  pub rows : (i : ℕ) → i < length sheet.rows → keeps_row sheet.plan (row_of (get_or sheet.rows i 0)) ≡ true
  pub assignment : (i : ℕ) → i < length sheet.assignment_rows
      → keeps_assignment_row (roster sheet) (row_of (get_or sheet.assignment_rows i 0)) ≡ true

-- the cells of one chooser pass exactly if no two of them name choices in one slot
module _ (plan cells : List ℕ) where
  apart-each : slots_apart plan cells ≡ true → (s t : ℕ) → s < length cells → t < s → slot_of plan (get_or cells s 0) ≡ slot_of plan (get_or cells t 0) → ⊥
  unfolding slots_apart
  apart-each h s t hs ht =
      eqb-false _ _ (not-true _ (all-each s (λ t. not (eqb (slot_of plan (get_or cells s 0)) (slot_of plan (get_or cells t 0))))
      (all-each (length cells) (λ s. all_below s λ t. not (eqb (slot_of plan (get_or cells s 0)) (slot_of plan (get_or cells t 0)))) h s hs) t ht))

  each-apart : ((s t : ℕ) → s < length cells → t < s → slot_of plan (get_or cells s 0) ≡ slot_of plan (get_or cells t 0) → ⊥) → slots_apart plan cells ≡ true
  unfolding slots_apart
  each-apart h =
      each_all (length cells) (λ s. all_below s λ t. not (eqb (slot_of plan (get_or cells s 0)) (slot_of plan (get_or cells t 0)))) λ s hs.
      each_all s (λ t. not (eqb (slot_of plan (get_or cells s 0)) (slot_of plan (get_or cells t 0)))) λ t ht.
      ap not (ne_eqb _ _ (h s t hs ht))

-- the seats of one choice pass exactly if they are min to max where it is scheduled
module _ (mins maxs plan roster : List ℕ) (choice : ℕ) where
  fits_each : seats_fit mins maxs plan roster choice ≡ true → (slot_of plan choice ≡ 255 → ⊥)
      → (get_or mins choice 0 ≤ seats_of roster choice) × (seats_of roster choice ≤ get_or maxs choice 0)
  unfolding seats_fit omitted
  fits_each h n =
      let a = leb (get_or mins choice 0) (seats_of roster choice) in
      let b = leb (seats_of roster choice) (get_or maxs choice 0) in
      let k : (a && b) ≡ true = ap (λ (o : Bool). o || (a && b)) (sym (ne_eqb (slot_of plan choice) 255 n)) ∙ h in
      (leb-true _ _ (and_left a b k), leb-true _ _ (and_right a b k))

  each_fits : ((slot_of plan choice ≡ 255 → ⊥) → get_or mins choice 0 ≤ seats_of roster choice)
      → ((slot_of plan choice ≡ 255 → ⊥) → seats_of roster choice ≤ get_or maxs choice 0) → seats_fit mins maxs plan roster choice ≡ true
  unfolding seats_fit omitted
  each_fits low high = elim (ℕ_discrete (slot_of plan choice) 255) [
    | yes e ↦ rw (eq-eqb (slot_of plan choice) 255 e)
    | no n ↦ rw (ne_eqb (slot_of plan choice) 255 n, le-leb _ _ (low n), le-leb _ _ (high n))
  ]

-- the roster check passes exactly the rosters that `Passing` says
module _ (sheet : Sheet) (k : Seated sheet.counts.slots sheet.counts.choosers sheet.roster) where
  pub passes_means : passes sheet ≡ true → Passing sheet
  unfolding passes keeps_rows keeps_assignment_rows
  passes_means h =
      let cells = cells_of sheet.counts.slots sheet.roster in
      let a = all_below sheet.counts.choosers λ chooser. slots_apart sheet.plan (cells chooser) in
      let s = all_below sheet.counts.choices (seats_fit sheet.mins sheet.maxs sheet.plan sheet.roster) in
      let r = keeps_rows sheet.plan sheet.rows in
      let m = keeps_assignment_rows (roster sheet) sheet.assignment_rows in
      let asr = and_left (a && s && r) m h in
      let both = and_left (a && s) r asr in
      let fit = all-each sheet.counts.choices (seats_fit sheet.mins sheet.maxs sheet.plan sheet.roster) (and_right a s both) in
      record {
        slots =
            λ chooser i j hc hi hj.
            apart-each sheet.plan (cells chooser)
            (all-each sheet.counts.choosers (λ chooser. slots_apart sheet.plan (cells chooser)) (and_left a s both) chooser hc) i j
            (rw (cells-many sheet.counts.slots sheet.roster chooser sheet.counts.choosers k hc) hi) hj;
        minimums = λ choice hc n. (fits_each sheet.mins sheet.maxs sheet.plan sheet.roster choice (fit choice hc) n).0;
        maximums = λ choice hc n. (fits_each sheet.mins sheet.maxs sheet.plan sheet.roster choice (fit choice hc) n).1;
        rows = all_of-each (λ number. keeps_row sheet.plan (row_of number)) sheet.rows 0 (and_right (a && s) r asr);
        assignment =
            all_of-each (λ number. keeps_assignment_row (roster sheet) (row_of number))
            sheet.assignment_rows 0 (and_right (a && s && r) m h);
      }

  pub means_passes : Passing sheet → passes sheet ≡ true
  unfolding passes keeps_rows keeps_assignment_rows
  means_passes p =
      let cells = cells_of sheet.counts.slots sheet.roster in
      let a = each_all sheet.counts.choosers (λ chooser. slots_apart sheet.plan (cells chooser)) λ chooser hc.
      each-apart sheet.plan (cells chooser) λ i j hi hj.
      p.slots chooser i j hc (rw (cells-many sheet.counts.slots sheet.roster chooser sheet.counts.choosers k hc) at hi) hj in
      let s = each_all sheet.counts.choices (seats_fit sheet.mins sheet.maxs sheet.plan sheet.roster) λ choice hc.
      each_fits sheet.mins sheet.maxs sheet.plan sheet.roster choice (p.minimums choice hc) (p.maximums choice hc) in
      let r = each-all_of (λ number. keeps_row sheet.plan (row_of number)) sheet.rows 0 p.rows in
      let m = each-all_of (λ number. keeps_assignment_row (roster sheet) (row_of number))
      sheet.assignment_rows 0 p.assignment in
      and_both _ _ (and_both _ _ (and_both _ _ a s) r) m

  pub passes-exactly : (passes sheet ≡ true) ↔ Passing sheet
  passes-exactly = (passes_means, means_passes)

-- ---- how many seats there are

sum-add : (n : ℕ) (f g : ℕ → ℕ) → sum_below n (λ i. f i + g i) ≡ sum_below n f + sum_below n g
unfolding sum_below
sum-add zero f g = refl
sum-add (suc n) f g = omega (arith, sum-add n f g)

-- the seats of a choice, none if it is omitted
unfoldable pub scheduled_seats : List ℕ → List ℕ → ℕ → ℕ
scheduled_seats plan roster choice = cond (omitted plan choice) 0 (seats_of roster choice)

module _ (plan : List ℕ) where
  -- one cell is one seat of the choice that it names, if that is scheduled
  seat : ℕ → ℕ → ℕ
  seat cell choice = cond (omitted plan choice) 0 (one (eqb choice cell))

  seat-other : (cell choice : ℕ) → (choice ≡ cell → ⊥) → seat cell choice ≡ 0
  unfolding seat
  seat-other cell choice n = go (omitted plan choice)
    where
      go : (b : Bool) → cond b 0 (one (eqb choice cell)) ≡ 0
      go true = refl
      go false = one_false choice cell n

  seat-own : (cell : ℕ) → omitted plan cell ≡ false → seat cell cell ≡ 1
  unfolding seat
  seat-own cell f = ap (λ (b : Bool). cond b 0 (one (eqb cell cell))) f ∙ one_true cell cell refl

  seats_before : (n cell : ℕ) → n ≤ cell → sum_below n (seat cell) ≡ 0
  unfolding sum_below
  seats_before zero cell h = refl
  seats_before (suc n) cell h = omega (arith, seats_before n cell (omega arith), seat-other cell n λ e. omega (arith, e, h))

  seats_one : (n cell : ℕ) → cell < n → omitted plan cell ≡ false → sum_below n (seat cell) ≡ 1
  unfolding sum_below
  seats_one zero cell h f = absurd (not-suc-le-zero h)
  seats_one (suc n) cell h f =
      elim (ℕ_discrete cell n) [
        | yes e ↦ rw (sym e) (omega (arith, seats_before cell cell (omega arith), seat-own cell f))
        | no m ↦ omega (arith, seats_one n cell (omega arith) f, seat-other cell n λ e. m (sym e))
      ]

  cell_below : (cell : ℕ) → omitted plan cell ≡ false → cell < length plan
  unfolding omitted slot_of
  cell_below cell f =
      elim (dec_lt cell (length plan)) [
        | yes h ↦ h
        | no n ↦ absurd (false≢true (sym f ∙ eq-eqb _ _ (get_or-eq_default plan 255 (omega arith))))
      ]

  seats_none : (choice : ℕ) → scheduled_seats plan [] choice ≡ 0
  unfolding scheduled_seats seats_of times_in
  seats_none choice = go (omitted plan choice)
    where
      go : (b : Bool) → ◌≡◌ {A = ℕ} (cond b 0 0) 0
      go true = refl
      go false = refl

  seats_cons : (cell : ℕ) (roster : List ℕ) (choice : ℕ) → scheduled_seats plan (cell ∷ roster) choice ≡ seat cell choice + scheduled_seats plan roster choice
  unfolding scheduled_seats seats_of times_in seat
  seats_cons cell roster choice = go (omitted plan choice)
    where
      go : (b : Bool) → cond b 0 (one (eqb choice cell) + times_in choice roster) ≡ cond b 0 (one (eqb choice cell)) + cond b 0 (times_in choice roster)
      go true = refl
      go false = refl

  -- every seat of a roster whose cells name scheduled choices is a seat in one of them
  pub seats_all : (roster : List ℕ) → all_of (names_scheduled plan) roster ≡ true → sum_below (length plan) (scheduled_seats plan roster) ≡ length roster
  unfolding all_of names_scheduled
  seats_all [] h = sum_ext (length plan) (scheduled_seats plan []) (λ k. 0) (λ k hk. seats_none k) ∙ sum_zeros (length plan)
  seats_all (cell ∷ roster) h =
      let named : omitted plan cell ≡ false = not-true _ (and_left (not (omitted plan cell)) (all_of (names_scheduled plan) roster) h) in
      let rest = seats_all roster (and_right (not (omitted plan cell)) (all_of (names_scheduled plan) roster) h) in
      let own = seats_one (length plan) cell (cell_below cell named) named in
      sum_ext (length plan) (scheduled_seats plan (cell ∷ roster)) (λ k. seat cell k + scheduled_seats plan roster k) (λ k hk. seats_cons cell roster k)
      ∙ sum-add (length plan) (seat cell) (scheduled_seats plan roster) ∙ omega (arith, own, rest)

-- 'H times S': a roster whose cells all name scheduled choices has exactly so many seats in them
pub seats_in_scheduled : (sheet : Sheet) → length sheet.plan ≡ sheet.counts.choices → length sheet.roster ≡ sheet.counts.choosers * sheet.counts.slots
    → all_of (names_scheduled sheet.plan) sheet.roster ≡ true
    → sum_below sheet.counts.choices (scheduled_seats sheet.plan sheet.roster) ≡ sheet.counts.choosers * sheet.counts.slots
seats_in_scheduled sheet p r n =
    ap (λ (c : ℕ). sum_below c (scheduled_seats sheet.plan sheet.roster)) (sym p) ∙ seats_all sheet.plan sheet.roster n ∙ r

-- ---- the call's answers

-- where two judgements give an answer, the first is done, and the second is what is told
answered : {A : Type 0} (first : Told (Unit {0})) (rest : Told A) {value : A} → and_then first rest ≡ done value → (done tt ≡ first) × (rest ≡ done value)
answered (done x) rest e = (refl, e)
answered (refused number carried) rest e = let z : ◌≡◌ {A = ℕ} 0 1 = cc in absurd (omega arith)

abbrev passed_of : Told Scored → Bool
passed_of (done scored) = scored.passed
passed_of (refused number carried) = false

abbrev highest_of : Told Scored → ℕ
highest_of (done scored) = scored.highest
highest_of (refused number carried) = 0

module _ (sheet : Sheet) {answer : Scored} (e : roster_check_of sheet ≡ done answer) where
  -- what is told of a roster that isn't refused
  told : Listed sheet × (all_of (names_scheduled sheet.plan) sheet.roster ≡ true) × (done (scored (passes sheet) (highest sheet)) ≡ done answer)
  unfolding roster_check_of
  told =
      let last = done (scored (passes sheet) (highest sheet)) in
      let cells = cells_judged sheet.counts.slots sheet.plan sheet.roster in
      let rows = rows_judged (row_counts sheet.counts) sheet.rows sheet.assignment_rows in
      let a = answered (lists_judged sheet) (and_then rows (and_then cells last)) e in
      let b = answered rows (and_then cells last) a.1 in
      let c = answered cells last b.1 in
      (listed sheet a.0, (places-fit sheet.counts.slots sheet.plan sheet.roster c.0).1, c.1)

  -- a roster is told passed exactly if it is one that `Passing` says
  pub told-passed : (answer.passed ≡ true) ↔ Passing sheet
  told-passed =
      let k = seated sheet told.0 in
      let p : passes sheet ≡ answer.passed = ap passed_of told.2 in
      (λ t. passes_means sheet k (p ∙ t), λ m. sym p ∙ means_passes sheet k m)

  -- passed or not, the highest preference met is told
  pub told-highest : answer.highest ≡ highest sheet
  told-highest = sym (ap highest_of told.2)

  -- a roster that isn't refused has 'H times S' seats in scheduled choices
  pub told_seats : sum_below sheet.counts.choices (scheduled_seats sheet.plan sheet.roster) ≡ sheet.counts.choosers * sheet.counts.slots
  told_seats = seats_in_scheduled sheet told.0.lengths.plan told.0.lengths.roster told.1
