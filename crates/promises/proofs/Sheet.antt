-- What `plan` prints is true of the day in the file.
use mathlib.Core.Path.{◌≡◌, refl, sym, ◌∙◌, ap, subst}
use mathlib.Core.Bool.{Bool, true, false, cond}
use mathlib.Core.List.{List, [], ◌++◌}
use mathlib.Core.Logic.{◌⊎◌, inl, inr}
use Prim.Native.Nat.{ℕ, ◌≤◌, ◌<◌}
use Prim.Native.String.{String}
use native.Mathlib.Omega.{arith}
use borrow.Author.Tests.{eq-eqb}
use lib.Dec.{leb}
use lib.ListN.{length, get_or, take, replicate}
use lib.Seq.{get_or-take}
use Rattle.base_lists.specs.Pool.{pad}
use Rattle.day_rows.specs.Told.{Told, done, Verdict, good, outcome}
use Rattle.day_rows.specs.Told as told
use Rattle.day_rows.specs.declared.check.Takes.TheVariants as takes
use Rattle.day_rows.proofs.CountLaws.{within}
use Rattle.reduce_turn.specs.Turn.{clash_of}
use Rattle.reduce.specs.Reduction.{expanded}
use Rattle.plan_check.specs.Day.{Day}
use Rattle.day_file.specs.FileDay.{row_counts}
use Rattle.day_file.specs.File.{counts_in, day_in, longest_file}
use Rattle.day_file.specs.Calls.{file_judged}
use Rattle.search_rules.specs.Turns.{sum_of_powers}
use Rattle.search_meaning.specs.Given.{plan_day}
use Rattle.search_meaning.specs.Calls.{Settled, plan, no_plan, out_of_turns, figures}
use Rattle.search_meaning.specs.declared.answer.Figures.{Figures}
use Rattle.search_meaning.specs.Demand.{starts_of, turns_that_settle}
use Rattle.search_day.specs.Planning.{plan_day_of}
use Rattle.text_lines.specs.Text.{ascii, number_line, clash_text, refused_text}
use Rattle.text_lines.specs.PlanLines.{PlanAnswer, found, none, turns, clash, refused, figures_text, choice_lines, answer_text}
use Rattle.text_day.specs.Prepared.{Prepared, judged_to, reduced_to, prepared_of}
use Rattle.text_day.specs.Prepared as prepared
use Rattle.text_day.proofs.FileLaws.{given, ready-good, prepared_day}
use Rattle.text_plans.specs.PlansAnswer.{search_day, file_day}
use Rattle.text_plan.specs.PlanAnswer.{plan_settings, plan_counts, search_rows, told_answer, search_answer, day_answer, answer_by, answer_of}
use Rattle.text_plan.specs.steps.Meaning.{file_given}
use Rattle.text_plan.specs.Calls.{plan_text, text_judged, text_of}
use Rattle.text_plan.proofs.Meaning.{found_means, none_means, turns_means}
use Rattle.text_plan.proofs.Refusals.{plan-refused}
use Rattle.text_plan.proofs.CallLaws.{text-fits}
use Rattle.promises.specs.Words.{Begins, enough_turns, Clashes}
use Rattle.promises.specs.Promises.{PlanOf, SheetIsTrue}
use Rattle.promises.proofs.Rules.{clash-is}
use Rattle.promises.proofs.Search.{such_of, of_such}

-- a text that begins with a line has its letters
pub letter : (text : List ℕ) (line : String) (k : ℕ) → k < length (ascii line) → Begins text line → get_or text k 0 ≡ get_or (ascii line) k 0
letter text line k h b = sym (get_or-take (length (ascii line)) text k 0 h) ∙ ap (λ (l : List ℕ). get_or l k 0) b

-- which answer it is
abbrev answer_code : PlanAnswer → ℕ
answer_code (found used passes limit list) = 102
answer_code (none used passes limit) = 110
answer_code (turns used passes limit) = 116
answer_code clash = 99
answer_code (refused number) = 114

-- the letter that tells the five answers apart
text-letter : (answer : PlanAnswer) → get_or (answer_text answer) 7 0 ≡ answer_code answer
unfolding answer_text number_line clash_text refused_text
text-letter (found used passes limit list) = refl
text-letter (none used passes limit) = refl
text-letter (turns used passes limit) = refl
text-letter clash = refl
text-letter (refused number) = refl

-- the number of a refusal, and another one for every other answer
abbrev answer_number : ℕ → PlanAnswer → ℕ
answer_number other (found used passes limit list) = other
answer_number other (none used passes limit) = other
answer_number other (turns used passes limit) = other
answer_number other clash = other
answer_number other (refused number) = number

-- what a file comes to, by numbers: 0 for ready, 1 for a clash, 2 for a refusal; and a refusal's number
abbrev prepared_code : Prepared → ℕ
prepared_code prepared.ready = 0
prepared_code prepared.clash = 1
prepared_code (prepared.refused number) = 2

abbrev prepared_number : ℕ → Prepared → ℕ
prepared_number other prepared.ready = other
prepared_number other prepared.clash = other
prepared_number other (prepared.refused number) = number

-- ---- a day that is read

module _ (file : List ℕ) where
  -- the day that is searched is the day that is listed
  pub same-day : plan_day (file_given file) ≡ file_day file
  unfolding search_day
  same-day = refl

  -- a clash is one of the given rules
  pub clash_prepared : prepared_of file ≡ prepared.clash → clash_of (day_in file).lists.rows ≡ true
  unfolding prepared_of reduced_to
  clash_prepared e =
      go (leb (length file) longest_file) (file_judged file) (leb (length (expanded (row_counts (day_in file).counts) (day_in file).lists.rows)) 1024) (clash_of (day_in file).lists.rows) refl e
    where
      go : (a : Bool) (v : Verdict) (b c : Bool) → clash_of (day_in file).lists.rows ≡ c
          → cond a (judged_to v (cond b (cond c prepared.clash prepared.ready) (prepared.refused 6))) (prepared.refused 11) ≡ prepared.clash → clash_of (day_in file).lists.rows ≡ true
      go a v b true t e = t
      go true (done value) true false t e = let z : ◌≡◌ {A = ℕ} 0 1 = ap prepared_code e in absurd (omega arith)
      go true (done value) false false t e = let z : ◌≡◌ {A = ℕ} 2 1 = ap prepared_code e in absurd (omega arith)
      go true (told.refused number carried) b false t e = let z : ◌≡◌ {A = ℕ} 2 1 = ap prepared_code e in absurd (omega arith)
      go false v b false t e = let z : ◌≡◌ {A = ℕ} 2 1 = ap prepared_code e in absurd (omega arith)

  -- a good file is refused before its search by 6 alone
  pub refused_prepared : length file ≤ longest_file → file_judged file ≡ good → (number : ℕ) → prepared_of file ≡ prepared.refused number → number ≡ 6
  unfolding reduced_to
  refused_prepared short g number e =
      go (leb (length (expanded (row_counts (day_in file).counts) (day_in file).lists.rows)) 1024) (clash_of (day_in file).lists.rows) (prepared_day file short g ∙ e)
    where
      go : (b c : Bool) → cond b (cond c prepared.clash prepared.ready) (prepared.refused 6) ≡ prepared.refused number → number ≡ 6
      go true true e = sym (ap (prepared_number 6) e)
      go true false e = sym (ap (prepared_number 6) e)
      go false c e = sym (ap (prepared_number 6) e)

  -- only a day that is ready is searched
  searched-code : (t : Told Settled) (after : List ℕ) → (answer_code (told_answer t after) ≡ 99 → ⊥)
  searched-code (done (plan f)) after e = omega (arith, e)
  searched-code (done (no_plan f)) after e = omega (arith, e)
  searched-code (done (out_of_turns f)) after e = omega (arith, e)
  searched-code (told.refused number carried) after e = omega (arith, e)

  day-code : answer_code (day_answer (day_in file).counts (day_in file).lists) ≡ 99 → ⊥
  unfolding day_answer search_answer
  day-code e =
      let counts = (day_in file).counts in
      let lists = (day_in file).lists in
      let rows = search_rows counts lists in
      let searched = plan_day_of (plan_counts counts (length rows)) lists.mins lists.maxs lists.optional lists.levels lists.preferences rows [] [] plan_settings (replicate counts.choices 0) in
      searched-code searched.answer searched.buffers e

  clash-answer : answer_of file ≡ clash → prepared_of file ≡ prepared.clash
  unfolding answer_of
  clash-answer e = go (prepared_of file) refl e
    where
      go : (p : Prepared) → prepared_of file ≡ p → answer_by p (day_answer (day_in file).counts (day_in file).lists) ≡ clash → prepared_of file ≡ prepared.clash
      go prepared.ready q e = absurd (day-code (ap answer_code e))
      go prepared.clash q e = q
      go (prepared.refused number) q e = let z : ◌≡◌ {A = ℕ} 114 99 = ap answer_code e in absurd (omega arith)

  few-slots : prepared.ready ≡ prepared_of file → (day_in file).counts.slots ≤ 24
  few-slots r = (within (row_counts (counts_in file)) takes.Given (given file (ready-good file r)).in_range).slots

  none-ready : {used passes limit : ℕ} → answer_of file ≡ none used passes limit → prepared.ready ≡ prepared_of file
  unfolding answer_of
  none-ready {used} {passes} {limit} e = go (prepared_of file) refl e
    where
      go : (p : Prepared) → prepared_of file ≡ p → answer_by p (day_answer (day_in file).counts (day_in file).lists) ≡ none used passes limit → prepared.ready ≡ prepared_of file
      go prepared.ready q e = sym q
      go prepared.clash q e = let z : ◌≡◌ {A = ℕ} 99 110 = ap answer_code e in absurd (omega arith)
      go (prepared.refused number) q e = let z : ◌≡◌ {A = ℕ} 114 110 = ap answer_code e in absurd (omega arith)

  good-refused : {number : ℕ} → answer_of file ≡ refused number → length file ≤ longest_file → file_judged file ≡ good → (number ≡ 6) ⊎ (number ≡ 7)
  unfolding answer_of
  good-refused {number} e short g = go (prepared_of file) refl e
    where
      go : (p : Prepared) → prepared_of file ≡ p → answer_by p (day_answer (day_in file).counts (day_in file).lists) ≡ refused number → (number ≡ 6) ⊎ (number ≡ 7)
      go prepared.ready q h = plan-refused file (sym q) e
      go prepared.clash q h = let z : ◌≡◌ {A = ℕ} 99 114 = ap answer_code h in absurd (omega arith)
      go (prepared.refused n) q h = inl (sym (ap (answer_number number) h) ∙ refused_prepared short g n q)

  -- the pool that is lent holds the whole text
  whole-text : (pool : List ℕ) → length pool ≡ 1311 → text_of file pool ≡ outcome (done (length (plan_text file))) (pad 1311 (plan_text file))
  unfolding text_of text_judged
  whole-text pool e = rw (eq-eqb _ _ e)

  -- ---- the sheet, by its answer

  module _ (answer : PlanAnswer) (e : answer_of file ≡ answer) where
    text-is : plan_text file ≡ answer_text answer
    unfolding plan_text
    text-is = ap answer_text e

    code_is : get_or (plan_text file) 7 0 ≡ answer_code answer
    code_is = ap (λ (l : List ℕ). get_or l 7 0) text-is ∙ text-letter answer

    found-code : Begins (plan_text file) "result found\n" → answer_code answer ≡ 102
    found-code b = sym code_is ∙ letter (plan_text file) "result found\n" 7 (omega arith) b

    none-code : Begins (plan_text file) "result none\n" → answer_code answer ≡ 110
    none-code b = sym code_is ∙ letter (plan_text file) "result none\n" 7 (omega arith) b

    turns-code : Begins (plan_text file) "result turns\n" → answer_code answer ≡ 116
    turns-code b = sym code_is ∙ letter (plan_text file) "result turns\n" 7 (omega arith) b

    clash-code : Begins (plan_text file) "result clash\n" → answer_code answer ≡ 99
    clash-code b = sym code_is ∙ letter (plan_text file) "result clash\n" 7 (omega arith) b

    refused-code : Begins (plan_text file) "result refused " → answer_code answer ≡ 114
    refused-code b = sym code_is ∙ letter (plan_text file) "result refused " 7 (omega arith) b

  found_so : (answer : PlanAnswer) → answer_of file ≡ answer → Begins (plan_text file) "result found\n"
      → (f : Figures) × (list : List ℕ) × PlanOf (file_day file) list
      × (plan_text file ≡ ascii "result found\n" ++ (figures_text f.turns f.passes f.limit ++ choice_lines 0 list))
  unfolding answer_text
  found_so (found used passes limit list) e b =
      (figures used passes limit, list, subst (λ (day : Day). PlanOf day list) same-day (such_of (file_given file) list (found_means file e)), text-is (found used passes limit list) e)
  found_so (none used passes limit) e b = absurd (let z = found-code (none used passes limit) e b in omega (arith, z))
  found_so (turns used passes limit) e b = absurd (let z = found-code (turns used passes limit) e b in omega (arith, z))
  found_so clash e b = absurd (let z = found-code clash e b in omega (arith, z))
  found_so (refused number) e b = absurd (let z = found-code (refused number) e b in omega (arith, z))

  none_so : (answer : PlanAnswer) → answer_of file ≡ answer → Begins (plan_text file) "result none\n" → (list : List ℕ) → PlanOf (file_day file) list → ⊥
  none_so (found used passes limit list') e b list p = let z = none-code (found used passes limit list') e b in omega (arith, z)
  none_so (none used passes limit) e b list p =
      none_means file e list (of_such (file_given file) (few-slots (none-ready e)) list (subst (λ (day : Day). PlanOf day list) (sym same-day) p))
  none_so (turns used passes limit) e b list p = let z = none-code (turns used passes limit) e b in omega (arith, z)
  none_so clash e b list p = let z = none-code clash e b in omega (arith, z)
  none_so (refused number) e b list p = let z = none-code (refused number) e b in omega (arith, z)

  turns_so : (answer : PlanAnswer) → answer_of file ≡ answer → Begins (plan_text file) "result turns\n"
      → 1000000 < enough_turns (day_in file).counts.choices (day_in file).counts.slots (day_in file).counts.levels
  unfolding turns_that_settle starts_of sum_of_powers
  turns_so (found used passes limit list) e b = absurd (let z = turns-code (found used passes limit list) e b in omega (arith, z))
  turns_so (none used passes limit) e b = absurd (let z = turns-code (none used passes limit) e b in omega (arith, z))
  turns_so (turns used passes limit) e b = turns_means file e
  turns_so clash e b = absurd (let z = turns-code clash e b in omega (arith, z))
  turns_so (refused number) e b = absurd (let z = turns-code (refused number) e b in omega (arith, z))

  clash_so : (answer : PlanAnswer) → answer_of file ≡ answer → Begins (plan_text file) "result clash\n" → Clashes (day_in file).lists.rows
  clash_so (found used passes limit list) e b = absurd (let z = clash-code (found used passes limit list) e b in omega (arith, z))
  clash_so (none used passes limit) e b = absurd (let z = clash-code (none used passes limit) e b in omega (arith, z))
  clash_so (turns used passes limit) e b = absurd (let z = clash-code (turns used passes limit) e b in omega (arith, z))
  clash_so clash e b = (clash-is (day_in file).lists.rows).0 (clash_prepared (clash-answer e))
  clash_so (refused number) e b = absurd (let z = clash-code (refused number) e b in omega (arith, z))

  refused_so : (answer : PlanAnswer) → answer_of file ≡ answer → Begins (plan_text file) "result refused "
      → (number : ℕ) × (plan_text file ≡ refused_text number) × (length file ≤ longest_file → file_judged file ≡ good → (number ≡ 6) ⊎ (number ≡ 7))
  unfolding answer_text
  refused_so (found used passes limit list) e b = absurd (let z = refused-code (found used passes limit list) e b in omega (arith, z))
  refused_so (none used passes limit) e b = absurd (let z = refused-code (none used passes limit) e b in omega (arith, z))
  refused_so (turns used passes limit) e b = absurd (let z = refused-code (turns used passes limit) e b in omega (arith, z))
  refused_so clash e b = absurd (let z = refused-code clash e b in omega (arith, z))
  refused_so (refused number) e b = (number, text-is (refused number) e, good-refused e)

  one_so : (answer : PlanAnswer) → answer_of file ≡ answer
      → Begins (plan_text file) "result found\n" ⊎ (Begins (plan_text file) "result none\n"
      ⊎ (Begins (plan_text file) "result turns\n" ⊎ (Begins (plan_text file) "result clash\n" ⊎ Begins (plan_text file) "result refused ")))
  unfolding answer_text number_line clash_text refused_text
  one_so (found used passes limit list) e = inl (ap (take 13) (text-is (found used passes limit list) e))
  one_so (none used passes limit) e = inr (inl (ap (take 12) (text-is (none used passes limit) e)))
  one_so (turns used passes limit) e = inr (inr (inl (ap (take 13) (text-is (turns used passes limit) e))))
  one_so clash e = inr (inr (inr (inl (ap (take 13) (text-is clash e)))))
  one_so (refused number) e = inr (inr (inr (inr (ap (take 15) (text-is (refused number) e)))))

  pub sheet-is_true : SheetIsTrue file
  sheet-is_true =
      record {
        found = found_so (answer_of file) refl;
        none = none_so (answer_of file) refl;
        turns = turns_so (answer_of file) refl;
        clash = clash_so (answer_of file) refl;
        refusal = refused_so (answer_of file) refl;
        one_of = one_so (answer_of file) refl;
        whole = λ pool e. (text-fits file, whole-text pool e);
      }
