-- A day that was read and reduced is refused by its search with 6 or 7 alone: 1 to 5, 8, 13 and 14 can't be
-- met.
use mathlib.Core.Path.{◌≡◌, refl, sym, ◌∙◌, ap}
use mathlib.Core.Bool.{Bool, true, false, ◌&&◌, cond}
use mathlib.Core.List.{List, []}
use mathlib.Core.Logic.{◌⊎◌, inl, inr, ⊎_elim}
use Prim.Native.Nat.{ℕ, ◌*◌, ◌/◌, ◌≤◌, min}
use native.Mathlib.Nat.{zero-mul, zero-div}
use native.Mathlib.Omega.{arith}
use borrow.Author.Tests.{le-leb, leb-true, eq-eqb}
use lib.Dec.{eqb, leb}
use lib.ListN.{length, replicate, length-replicate}
use Rattle.base_lists.specs.Below.{all_below}
use Rattle.base_lists.proofs.Flat.{length-list}
use Rattle.base_lists.proofs.Sorted.{length_unique}
use Rattle.day_rows.specs.Check.{counts_in_range}
use Rattle.day_rows.specs.Told.{Told, done, refused, Verdict, good, unless, and_then, Outcome, outcome, judged}
use Rattle.day_rows.specs.declared.check.Takes.TheVariants as takes
use Rattle.day_rows.proofs.CountLaws.{Within, within}
use Rattle.day_rows.proofs.ToldLaws.{refused-not-done, refused-number}
use Rattle.reduce_turn.specs.Turn.{clash_of}
use Rattle.reduce.specs.Reduction.{expanded, reduced_rows}
use Rattle.day_file.specs.FileDay.{Parts, row_counts}
use Rattle.day_file.specs.File.{day_in, longest_file}
use Rattle.day_file.specs.Calls.{file_judged}
use Rattle.day_file.specs.declared.counts.FileCounts.{FileCounts}
use Rattle.day_rows.specs.Levels.{levels_in_range}
use Rattle.plan_check.specs.Feasible.{lengths_fit}
use Rattle.plan_check.specs.Check.{flags_judged}
use Rattle.sets_analysis.specs.declared.analysis.Analysis.TheVariants.{Simplified}
use Rattle.search_map.specs.Map.{own_numbers}
use Rattle.search_order.specs.Order.{is_permutation, order_count, order_at, orders_keep}
use Rattle.search_meaning.specs.Given.{sets_day}
use Rattle.search_meaning.specs.Given as search
use Rattle.search_meaning.specs.Judged.{search_in_range, search_lengths, day_judged, lent_judged}
use Rattle.search_meaning.specs.Calls.{Settled, plan, no_plan, out_of_turns, settled_by, plan_left, sets_fit, search_judged, search_of}
use Rattle.search_meaning.specs.Search.{ending_of}
use Rattle.search_day.specs.Planning.{with_numbers, whole_of, given_with, plan_day_of}
use Rattle.search_day.proofs.PlanSteps.{own-full}
use Rattle.search_day.proofs.NeverMap.{never-map}
use Rattle.text_lines.specs.PlanLines as answer
use Rattle.text_day.specs.Prepared.{Prepared, judged_to, reduced_to, prepared_of}
use Rattle.text_day.specs.Prepared as prepared
use Rattle.text_day.specs.steps.FileGiven.{FileGiven, GivenLevels}
use Rattle.text_day.proofs.SearchLaws.{search-few, search-good}
use Rattle.text_day.proofs.FileLaws.{given-levels, ready-good, refused-not-ready}
use Rattle.text_day.proofs.FileLaws as file-laws
use Rattle.text_plan.specs.PlanAnswer.{plan_settings, plan_counts, told_answer, search_answer, search_rows, day_answer, answer_by, answer_of}

module _ (counts : FileCounts) (lists : Parts) (g : FileGiven (row_counts counts) lists.mins lists.maxs lists.optional lists.rows) (l : GivenLevels counts lists.levels lists.preferences) (few : length (search_rows counts lists) ≤ 1024) where
  abbrev rows : List ℕ
  rows = search_rows counts lists

  -- the blank plan that the call is lent
  abbrev before : List ℕ
  before = replicate counts.choices 0

  -- what the search is given, with a count of the map's numbers
  abbrev given : ℕ → search.Given
  given numbers = given_with numbers (plan_counts counts (length rows)) lists.mins lists.maxs lists.optional lists.levels lists.preferences rows [] []

  range : Within (row_counts counts) takes.Given
  range = within (row_counts counts) takes.Given g.in_range

  in_range : (numbers : ℕ) → numbers ≤ 10240 → search_in_range (with_numbers numbers (plan_counts counts (length rows))) ≡ true
  unfolding search_in_range counts_in_range levels_in_range
  in_range numbers h =
      rw (le-leb _ _ range.choices, le-leb _ _ range.slots, le-leb _ _ range.choosers, le-leb _ _ few, le-leb _ _ l.some, le-leb _ _ l.few, le-leb _ _ h)

  whole_long : length (whole_of rows) ≡ length rows
  unfolding whole_of
  whole_long = length-list (min (length rows) 1024) (λ i. i) ∙ omega (arith, few)

  lengths : (numbers : ℕ) → search_lengths (given numbers) before ≡ true
  unfolding search_lengths lengths_fit
  lengths numbers =
      rw (
        eq-eqb _ _ g.mins-fit,
        eq-eqb _ _ g.maxs-fit,
        eq-eqb _ _ g.optional-fits,
        eq-eqb _ _ (length-replicate {A = ℕ} counts.choices 0),
        eq-eqb _ _ l.levels-fit,
        eq-eqb _ _ l.preferences-fit,
        eq-eqb (length rows) (length rows) refl,
        own-full rows counts.choices range.choices,
        eq-eqb _ _ whole_long,
      )

  -- 1, 2, 3, 4, 5 can't be met
  pub day-good : (numbers : ℕ) → numbers ≤ 10240 → day_judged (given numbers) before ≡ good
  unfolding day_judged
  day-good numbers h =
      rw (in_range numbers h, lengths numbers, l.rise, l.at_most) (search-good (row_counts counts) lists.rows (length rows) g.in_range g.rows-good)

  -- no orders are good orders
  no_orders : (choices : ℕ) → orders_keep choices [] ≡ true
  unfolding orders_keep order_count all_below
  no_orders choices = go (eqb choices 0)
    where
      none : (n : ℕ) → n ≡ 0 → (eqb (length {A = ℕ} []) (n * choices) && all_below n (λ i. is_permutation choices (order_at choices [] i))) ≡ true
      none n e = rw (e, zero-mul choices)

      go : (b : Bool) → (eqb (length {A = ℕ} []) (cond b 0 (0 / choices) * choices) && all_below (cond b 0 (0 / choices)) (λ i. is_permutation choices (order_at choices [] i))) ≡ true
      go true = none 0 refl
      go false = none (0 / choices) (zero-div choices)

  -- how many numbers the own map has
  abbrev size : ℕ
  size = length (own_numbers rows counts.choices)

  -- 8, 13, 14 can't be met
  pub lent-good : size ≤ 10240 → lent_judged (given size) ≡ good
  unfolding lent_judged flags_judged
  lent-good h =
      let m = never-map (plan_counts counts (length rows)) lists.mins lists.maxs lists.optional lists.levels lists.preferences rows before (day-good 0 (omega arith)) h in
      rw (no_orders counts.choices, g.flags-fit, m)

  -- the call
  abbrev called : Outcome Settled (List ℕ)
  called = plan_day_of (plan_counts counts (length rows)) lists.mins lists.maxs lists.optional lists.levels lists.preferences rows [] [] plan_settings before

  -- 6: 'own map over 10,240 numbers'; 7: 'over 1,024 sets are kept before simplifying'
  pub day-refused : {number : ℕ} {carried : List ℕ} → called.answer ≡ refused number carried → (number ≡ 6) ⊎ (number ≡ 7)
  unfolding plan_day_of search_of search_judged
  day-refused {number} {carried} e =
      go (day_judged (given 0) before) (day-good 0 (omega arith)) (leb size 10240) refl (day_judged (given size) before) (λ h. day-good size h) (sets_fit (sets_day (given size)) Simplified) (lent_judged (given size)) lent-good (settled_by 1000000 (ending_of (given size) plan_settings)) (plan_left (given size) plan_settings before (ending_of (given size) plan_settings)) e
    where
      go : (first : Verdict) → first ≡ good → (b : Bool) → leb size 10240 ≡ b → (day : Verdict) → (size ≤ 10240 → day ≡ good) → (s : Bool) (lent : Verdict) → (size ≤ 10240 → lent ≡ good)
          → (settled : Settled) (after : List ℕ)
          → (judged (and_then first (unless b 6 good)) before (judged (and_then day (unless s 7 lent)) before (outcome (done settled) after))).answer ≡ refused number carried
          → (number ≡ 6) ⊎ (number ≡ 7)
      go (done value) f false t day d s lent k settled after h = inl (sym (refused-number h))
      go (done value) f true t (done value₂) d false lent k settled after h = inr (sym (refused-number h))
      go (done value) f true t (done value₂) d true (done value₃) k settled after h = absurd (refused-not-done (sym h))
      go (done value) f true t (done value₂) d true (refused n c) k settled after h = absurd (refused-not-done (k (leb-true _ _ t)))
      go (done value) f true t (refused n c) d s lent k settled after h = absurd (refused-not-done (d (leb-true _ _ t)))
      go (refused n c) f b t day d s lent k settled after h = absurd (refused-not-done f)

-- ---- a file

module _ (file : List ℕ) (r : prepared.ready ≡ prepared_of file) where
  abbrev day_counts : FileCounts
  day_counts = (day_in file).counts

  abbrev day_lists : Parts
  day_lists = (day_in file).lists

  -- its reduction has no more than 1,024 rows before equals are dropped
  few-expanded : leb (length (expanded (row_counts day_counts) day_lists.rows)) 1024 ≡ true
  unfolding prepared_of reduced_to
  few-expanded = go (leb (length file) longest_file) (file_judged file) (leb (length (expanded (row_counts day_counts) day_lists.rows)) 1024) refl r
    where
      go : (short : Bool) (v : Verdict) (b : Bool) → leb (length (expanded (row_counts day_counts) day_lists.rows)) 1024 ≡ b
          → prepared.ready ≡ cond short (judged_to v (cond b (cond (clash_of day_lists.rows) prepared.clash prepared.ready) (prepared.refused 6))) (prepared.refused 11)
          → leb (length (expanded (row_counts day_counts) day_lists.rows)) 1024 ≡ true
      go short v true t h = t
      go true (done value) false t h = absurd (refused-not-ready h)
      go true (refused number carried) false t h = absurd (refused-not-ready h)
      go false v false t h = absurd (refused-not-ready h)

  few-searched : length (search_rows day_counts day_lists) ≤ 1024
  unfolding reduced_rows
  few-searched =
      let a = length_unique (expanded (row_counts day_counts) day_lists.rows) in
      let b = search-few (reduced_rows (row_counts day_counts) day_lists.rows) in
      let c = leb-true (length (expanded (row_counts day_counts) day_lists.rows)) 1024 few-expanded in
      omega (arith, a, b, c)

  -- a file whose day is ready is refused by 6 or 7 alone
  pub plan-refused : {number : ℕ} → answer_of file ≡ answer.refused number → (number ≡ 6) ⊎ (number ≡ 7)
  unfolding answer_of day_answer search_answer
  plan-refused {number} e =
      go (called day_counts day_lists day levels few-searched).answer refl (ap (λ (p : Prepared). answer_by p (day_answer day_counts day_lists)) r ∙ e)
    where
      day : FileGiven (row_counts day_counts) day_lists.mins day_lists.maxs day_lists.optional day_lists.rows
      day = file-laws.given file (ready-good file r)

      levels : GivenLevels day_counts day_lists.levels day_lists.preferences
      levels = given-levels file (ready-good file r)

      go : (t : Told Settled) → (called day_counts day_lists day levels few-searched).answer ≡ t → told_answer t (called day_counts day_lists day levels few-searched).buffers ≡ answer.refused number
          → (number ≡ 6) ⊎ (number ≡ 7)
      go (done (plan figures)) k h = let z : ◌≡◌ {A = ℕ} 0 1 = cc in absurd (omega arith)
      go (done (no_plan figures)) k h = let z : ◌≡◌ {A = ℕ} 0 1 = cc in absurd (omega arith)
      go (done (out_of_turns figures)) k h = let z : ◌≡◌ {A = ℕ} 0 1 = cc in absurd (omega arith)
      go (refused n carried) k h =
          let s : n ≡ number = cc in
          ⊎_elim (λ q. inl (sym s ∙ q)) (λ q. inr (sym s ∙ q)) (day-refused day_counts day_lists day levels few-searched k)
