-- The plan check as a call, a law for each way through its functions.
use mathlib.Core.Path.{◌≡◌, refl, sym, ◌∙◌, ap}
use mathlib.Core.Bool.{Bool, true, false, ◌&&◌, ◌||◌}
use mathlib.Core.List.{List}
use Prim.Native.Nat.{ℕ, ◌+◌, ◌≤◌, ◌<◌}
use borrow.Author.Tests.{eq-eqb, ne_eqb, eqb-true}
use lib.Dec.{eqb, ltb}
use lib.ListN.{length, get_or, drop}
use Rattle.base_lists.specs.All.{all_of, all_at_most}
use Rattle.base_lists.specs.Below.{all_below}
use Rattle.base_lists.proofs.All.{all-passes, all-fails, all-passed, each-all_of}
use Rattle.base_lists.proofs.Below.{all-each, and_left, and_right}
use Rattle.day_rows.specs.Check.{counts_in_range, rows_judged}
use Rattle.day_rows.specs.declared.check.Takes.TheVariants.{Scheduling}
use Rattle.day_rows.specs.Told.{done, refused, Verdict, good, refuse, unless, and_then}
use Rattle.day_rows.proofs.ToldLaws.{unless-done, then_done}
use Rattle.day_rows.proofs.CountLaws.{Within, within}
use Rattle.plan_check.specs.Day.{Day}
use Rattle.plan_check.specs.Feasible.{omission_allowed, place_allowed, places_allowed, slot_fits, lengths_fit, feasible, is_feasible}
use Rattle.plan_check.specs.Plan.{slot_of}
use Rattle.plan_check.specs.Rows.{keeps_rows}
use Rattle.plan_check.specs.Check.{cell_fits, flags_judged, cells_judged, before_cells, plan_judged, plan_check_of}
use Rattle.plan_check.proofs.PlanLaws.{slot-at}
use Rattle.plan_check.proofs.FeasibleLaws.{worker_agrees}

-- a plan cell fits as 255 or by the slot's own test
module _ (slots cell : ℕ) where
  pub cell_omitted : cell ≡ 255 → cell_fits slots cell ≡ true
  unfolding cell_fits
  cell_omitted e = rw (eq-eqb _ _ e)

  pub cell_slot : (cell ≡ 255 → ⊥) → cell_fits slots cell ≡ ltb cell slots
  unfolding cell_fits
  cell_slot n = rw (ne_eqb _ _ n)

-- a loop that tests a list from its front: the rest of the list decides
module _ (test : ℕ → Bool) (list : List ℕ) where
  pub RestDecides : ℕ → Type 0
  RestDecides i = all_of test list ≡ all_of test (drop i list)

  pub rest-start : RestDecides 0
  unfolding RestDecides
  rest-start = refl

  pub rest-next : (i : ℕ) → i < length list → RestDecides i → test (get_or list i 0) ≡ true → RestDecides (i + 1)
  unfolding RestDecides
  rest-next i h f t = f ∙ all-passes test list i 0 h t

  pub rest-fails : (i : ℕ) → i < length list → RestDecides i → test (get_or list i 0) ≡ false → all_of test list ≡ false
  unfolding RestDecides
  rest-fails i h f t = f ∙ all-fails test list i 0 h t

  pub rest-none : (i : ℕ) → length list ≤ i → RestDecides i → all_of test list ≡ true
  unfolding RestDecides
  rest-none i h f = f ∙ all-passed test list i h

-- the lengths tested one after the other: the first that differs decides
module _ (choices : ℕ) (mins maxs optional plan : List ℕ) where
  pub mins_differ : (length mins ≡ choices → ⊥) → false ≡ lengths_fit choices mins maxs optional plan
  unfolding lengths_fit
  mins_differ n = rw (ne_eqb _ _ n)

  pub maxs_differ : length mins ≡ choices → (length maxs ≡ choices → ⊥) → false ≡ lengths_fit choices mins maxs optional plan
  unfolding lengths_fit
  maxs_differ a n = rw (eq-eqb _ _ a, ne_eqb _ _ n)

  pub optional_differ : length mins ≡ choices → length maxs ≡ choices → (length optional ≡ choices → ⊥) → false ≡ lengths_fit choices mins maxs optional plan
  unfolding lengths_fit
  optional_differ a b n = rw (eq-eqb _ _ a, eq-eqb _ _ b, ne_eqb _ _ n)

  pub plan-decides : length mins ≡ choices → length maxs ≡ choices → length optional ≡ choices → eqb (length plan) choices ≡ lengths_fit choices mins maxs optional plan
  unfolding lengths_fit
  plan-decides a b c = rw (eq-eqb _ _ a, eq-eqb _ _ b, eq-eqb _ _ c)

-- the refusals of cells: 9 before 13
module _ (slots : ℕ) (optional plan : List ℕ) where
  pub bad_cell : all_of (cell_fits slots) plan ≡ false → refuse 9 ≡ cells_judged slots optional plan
  unfolding cells_judged
  bad_cell h = rw h

  pub bad_flag : all_of (cell_fits slots) plan ≡ true → all_at_most 1 optional ≡ false → refuse 13 ≡ cells_judged slots optional plan
  unfolding cells_judged flags_judged
  bad_flag c h = rw (c, h)

  pub good-cells : all_of (cell_fits slots) plan ≡ true → all_at_most 1 optional ≡ true → good ≡ cells_judged slots optional plan
  unfolding cells_judged flags_judged
  good-cells c h = rw (c, h)

-- the refusals before those of cells, in their order: 1, 2, 5
module _ (day : Day) (plan : List ℕ) where
  pub before-count : counts_in_range day.counts Scheduling ≡ false → refuse 1 ≡ before_cells day plan
  unfolding before_cells
  before-count h = rw h

  module _ (c : counts_in_range day.counts Scheduling ≡ true) where
    pub before-length : lengths_fit day.counts.choices day.mins day.maxs day.optional plan ≡ false
        → refuse 2 ≡ before_cells day plan
    unfolding before_cells
    before-length h = rw (c, h)

    module _ (l : lengths_fit day.counts.choices day.mins day.maxs day.optional plan ≡ true) where
      pub before-rows-length : (length day.rows ≡ day.counts.rows → ⊥) → refuse 2 ≡ before_cells day plan
      unfolding before_cells
      before-rows-length n = rw (c, l, ne_eqb _ _ n)

      pub before-rows : length day.rows ≡ day.counts.rows → rows_judged day.counts Scheduling day.rows ≡ before_cells day plan
      unfolding before_cells
      before-rows e = rw (c, l, eq-eqb _ _ e)

-- what a day and a plan that aren't refused are known to be
pub record Judged (day : Day) (plan : List ℕ) : Type 0 where
  pub in_range : counts_in_range day.counts Scheduling ≡ true
  pub lengths : lengths_fit day.counts.choices day.mins day.maxs day.optional plan ≡ true
  pub rows-length : length day.rows ≡ day.counts.rows
  pub rows-keep : rows_judged day.counts Scheduling day.rows ≡ good
  pub cells : all_of (cell_fits day.counts.slots) plan ≡ true
  pub flags : all_at_most 1 day.optional ≡ true

module _ (day : Day) (plan : List ℕ) where
  -- what isn't refused before its cells has passed each of those tests
  pub before-judged : before_cells day plan ≡ good
      → (counts_in_range day.counts Scheduling ≡ true) × (lengths_fit day.counts.choices day.mins day.maxs day.optional plan ≡ true) × (length day.rows ≡ day.counts.rows) × (rows_judged day.counts Scheduling day.rows ≡ good)
  unfolding before_cells
  before-judged h =
      let l = lengths_fit day.counts.choices day.mins day.maxs day.optional plan in
      let r = eqb (length day.rows) day.counts.rows in
      let rows = rows_judged day.counts Scheduling day.rows in
      let a = unless-done (counts_in_range day.counts Scheduling) 1 (unless (l && r) 2 rows) h in
      let b = unless-done (l && r) 2 rows a.1 in
      (a.0, and_left l r b.0, eqb-true _ _ (and_right l r b.0), b.1)

  -- what isn't refused at all has passed every test
  pub judged_facts : plan_judged day plan ≡ good → Judged day plan
  unfolding plan_judged cells_judged flags_judged
  judged_facts h =
      let flags = unless (all_at_most 1 day.optional) 13 good in
      let cells = unless (all_of (cell_fits day.counts.slots) plan) 9 flags in
      let c = then_done (before_cells day plan) cells h in
      let b = before-judged c.0 in
      let d = unless-done (all_of (cell_fits day.counts.slots) plan) 9 flags c.1 in
      let e = unless-done (all_at_most 1 day.optional) 13 good d.1 in
      record {
        in_range = b.0;
        lengths = b.1;
        rows-length = b.2;
        rows-keep = b.3;
        cells = d.0;
        flags = e.0;
      }

  -- what isn't refused before its cells has a day's shape, so the worker says what the plan check says
  worker-before : before_cells day plan ≡ good → is_feasible day plan ≡ feasible day plan
  worker-before h =
      let b = before-judged h in
      let w : Within day.counts Scheduling = within day.counts Scheduling b.0 in
      sym (worker_agrees day plan w.choices w.slots b.1)

  -- on what isn't refused the worker says what the plan check says
  pub worker-judged : plan_judged day plan ≡ good → is_feasible day plan ≡ feasible day plan
  unfolding plan_judged
  worker-judged h = worker-before (then_done (before_cells day plan) (cells_judged day.counts.slots day.optional plan) h).0

  -- every cell of a feasible plan is a slot or 255
  feasible-cells : feasible day plan ≡ true → all_of (cell_fits day.counts.slots) plan ≡ true
  unfolding feasible places_allowed place_allowed omission_allowed cell_fits
  feasible-cells h =
      let slots = day.counts.slots in
      let places = places_allowed slots day.optional plan in
      let sums = all_below slots (slot_fits day.counts.choosers day.mins day.maxs plan) in
      let p = and_left places sums (and_left (places && sums) (keeps_rows plan day.rows) h) in
      each-all_of (cell_fits slots) plan 0 λ k hk.
      rw (slot-at plan k hk)
      (placed (ltb (slot_of plan k) slots) (eqb (slot_of plan k) 255) (eqb (get_or day.optional k 0) 1)
      (all-each (length plan) (place_allowed slots day.optional plan) p k hk))
    where
      placed : (b o f : Bool) → (b || (o && f)) ≡ true → (o || b) ≡ true
      placed true true f h = refl
      placed true false f h = refl
      placed false true f h = refl
      placed false false f h = h

  -- so where the worker says yes, the cells needn't be tested
  pub cells_spared : good ≡ before_cells day plan → is_feasible day plan ≡ true → all_of (cell_fits day.counts.slots) plan ≡ true
  cells_spared h f = feasible-cells (sym (worker-before (sym h)) ∙ f)

  -- the call: a refusal before the cells, the cells' own, or the worker's answer
  pub check-before : {number : ℕ} {carried : List ℕ} → refused number carried ≡ before_cells day plan → refused number carried ≡ plan_check_of day plan
  unfolding plan_check_of plan_judged
  check-before h = ap (λ (v : Verdict). and_then (and_then v (cells_judged day.counts.slots day.optional plan)) (done (feasible day plan))) h

  pub check-cells : {number : ℕ} {carried : List ℕ} → good ≡ before_cells day plan → refused number carried ≡ cells_judged day.counts.slots day.optional plan
      → refused number carried ≡ plan_check_of day plan
  unfolding plan_check_of plan_judged
  check-cells h e =
      ap (λ (v : Verdict). and_then v (done (feasible day plan))) e ∙ ap (λ (v : Verdict). and_then (and_then v (cells_judged day.counts.slots day.optional plan)) (done (feasible day plan))) h

  pub check-answers : (b : Bool) → good ≡ before_cells day plan → good ≡ cells_judged day.counts.slots day.optional plan → is_feasible day plan ≡ b
      → done b ≡ plan_check_of day plan
  unfolding plan_check_of plan_judged
  check-answers b h e f =
      ap (λ (x : Bool). done x) (sym f ∙ worker-before (sym h)) ∙ ap (λ (v : Verdict). and_then v (done (feasible day plan))) e ∙ ap (λ (v : Verdict). and_then (and_then v (cells_judged day.counts.slots day.optional plan)) (done (feasible day plan))) h
