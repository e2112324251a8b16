-- What `list_plans`, `list_page` and `plans` say of a day's list.
use mathlib.Core.Path.{◌≡◌, refl, sym, ◌∙◌, ap}
use mathlib.Core.Bool.{true}
use mathlib.Core.List.{List, flatten}
use mathlib.Core.Logic.{◌⊎◌, inl, inr, ⊎_elim}
use Prim.Native.Nat.{ℕ, ◌+◌, ◌-◌, ◌≤◌, ◌<◌, min}
use native.Mathlib.Omega.{arith}
use lib.ListN.{length, get_or, take}
use lib.Seq.{sets, take-length}
use Rattle.day_rows.specs.Told.{Told, done, good, outcome}
use Rattle.day_rows.proofs.ToldLaws.{done-is, refused-not-done}
use Rattle.plan_check.specs.Day.{Day}
use Rattle.day_file.specs.File.{day_in, longest_file}
use Rattle.day_file.specs.Calls.{file_judged}
use Rattle.plan_check.proofs.Meaning.{feasible-by}
use Rattle.list_nodes.specs.Placements.{page, total, nodes}
use Rattle.list_nodes.specs.Judge.{judge_of}
use Rattle.list_nodes.specs.Page.{PageTold, ended_told, goes_on_told, turns_told, page_put, Gives, ended, goes_on, out}
use Rattle.list_all.specs.Outcome as all
use Rattle.list_all.proofs.Outcomes.{turns_if, listed_if}
use Rattle.list_page.specs.Page.{Fits, refuses, gives}
use Rattle.text_lines.specs.Text.{ascii, number_line, clash_text, refused_text}
use Rattle.text_lines.specs.PlansLines.{PlansAnswer, page_text, answer_text}
use Rattle.text_lines.specs.PlansLines as answer
use Rattle.text_day.specs.Prepared.{Prepared, prepared_of}
use Rattle.text_day.specs.Prepared as prepared
use Rattle.text_plans.specs.PlansAnswer.{Lists, lists-all, lists-page, lists-some, AnsweredBy, file_day, Answers}
use Rattle.text_plans.specs.Calls.{Prints}
use Rattle.text_plans.proofs.CallLaws.{text-fits}
use Rattle.text_plans.proofs.Outcomes.{answered_in_time, one_answer, total-zero}
use Rattle.promises.specs.Words.{Begins, Clashes}
use Rattle.promises.specs.Calls.{page_in, ListedIsTrue, PageIsTrue}
use Rattle.promises.specs.Promises.{ListTextIsTrue}
use Rattle.promises.proofs.Plans.{of_plan}
use Rattle.promises.proofs.Rules.{clash-is}
use Rattle.promises.proofs.Sheet.{letter, clash_prepared, refused_prepared}

module _ (day : Day) (first room budget : ℕ) (buffer : List ℕ) where
  -- ---- `list_plans`

  whole_in : sets buffer 0 (flatten (page day first room)) ≡ page_in day first room budget buffer (length (page day first room))
  whole_in = ap (λ (l : List (List ℕ)). sets buffer 0 (flatten l)) (sym (take-length (page day first room)))

  pub listed-is_true : judge_of day room (length buffer) ≡ good → ListedIsTrue day first room budget buffer
  listed-is_true g =
      record {
        listed = λ h. listed_if day first room budget buffer g h ∙ ap (λ (l : List ℕ). outcome (done (all.plans_told (length (page day first room)) (total day) (nodes day))) l) whole_in;
        out = turns_if day first room budget buffer g;
      }

  -- ---- `list_page`

  abbrev case_of : PageTold → ℕ
  case_of (ended_told written all) = 0
  case_of (goes_on_told written met) = 1
  case_of (turns_told written met) = 2

  abbrev written_of : PageTold → ℕ
  written_of (ended_told written all) = written
  written_of (goes_on_told written met) = written
  written_of (turns_told written met) = written

  abbrev number_of : PageTold → ℕ
  number_of (ended_told written all) = all
  number_of (goes_on_told written met) = met
  number_of (turns_told written met) = met

  abbrev put_first : ℕ → List ℕ
  put_first written = page_in day first room budget buffer written

  given_true : (told : PageTold) (after : List ℕ) → Gives day first room budget buffer told after → PageIsTrue day first room budget buffer told after
  unfolding page_put
  given_true told after (ended c) =
      record {
        ended = λ written all e. let w = ap written_of e in (c, sym (ap number_of e), sym w, ap put_first w);
        goes_on = λ written met e. absurd (let z = ap case_of e in omega (arith, z));
        out = λ written met e. absurd (let z = ap case_of e in omega (arith, z));
      }
  given_true told after (goes_on r l) =
      record {
        ended = λ written all e. absurd (let z = ap case_of e in omega (arith, z));
        goes_on = λ written met e. let w = ap written_of e in (l, sym (ap number_of e), sym w, ap put_first w);
        out = λ written met e. absurd (let z = ap case_of e in omega (arith, z));
      }
  given_true told after (out met n t o) =
      record {
        ended = λ written all e. absurd (let z = ap case_of e in omega (arith, z));
        goes_on = λ written met' e. absurd (let z = ap case_of e in omega (arith, z));
        out = λ written met' e.
            let w = ap written_of e in
            let m : met ≡ met' = ap number_of e in (
              n,
              omega (arith, t, m),
              ⊎_elim inl (λ l. inr (omega (arith, l, m))) o,
              sym w ∙ ap (λ (k : ℕ). min room (k - first)) m,
              ap put_first w,
            );
      }

  fits_true : (t : Told PageTold) (after : List ℕ) → Fits day first room budget buffer t after → (told : PageTold) → t ≡ done told → PageIsTrue day first room budget buffer told after
  fits_true t after (refuses number carried j) told e = absurd (refused-not-done e)
  fits_true t after (gives j page' after' g) told e = rw (sym (done-is e)) (given_true page' after' g)

  pub page-is_true : (told : PageTold) (after : List ℕ) → Fits day first room budget buffer (done told) after → PageIsTrue day first room budget buffer told after
  page-is_true told after f = fits_true (done told) after f told refl

-- ---- `plans`

abbrev answer_code : PlansAnswer → ℕ
answer_code (answer.ended first all told) = 108
answer_code (answer.goes_on first met told) = 108
answer_code (answer.turns first met told) = 116
answer_code answer.clash = 99
answer_code (answer.refused number) = 114

text-letter : (one : PlansAnswer) → get_or (answer_text one) 7 0 ≡ answer_code one
unfolding answer_text page_text number_line clash_text refused_text
text-letter (answer.ended first all told) = refl
text-letter (answer.goes_on first met told) = refl
text-letter (answer.turns first met told) = refl
text-letter answer.clash = refl
text-letter (answer.refused number) = refl

-- an answer whose text doesn't say turns
in_time : (one : PlansAnswer) → (Begins (answer_text one) "result turns\n" → ⊥) → answered_in_time one ≡ true
unfolding answer_text page_text number_line
in_time (answer.ended first all told) n = refl
in_time (answer.goes_on first met told) n = refl
in_time (answer.turns first met told) n = absurd (n refl)
in_time answer.clash n = refl
in_time (answer.refused number) n = refl

module _ (file : List ℕ) (first room budget : ℕ) (text : List ℕ) (p : Prints file first room budget text) where
  abbrev day : Day
  day = file_day file

  code_is : get_or text 7 0 ≡ answer_code p.answer
  code_is = ap (λ (l : List ℕ). get_or l 7 0) p.says ∙ text-letter p.answer

  abbrev Listed : Type 0
  Listed =
      (((room ≡ 0) ⊎ (total day ≤ first + room)) × (text ≡ page_text (ascii "result listed\ntotal ") first (total day) (page day first room)))
      ⊎ ((first + room < total day) × (text ≡ page_text (ascii "result listed\ntotal at least ") first (first + room + 1) (page day first room)))

  abbrev Turns : Type 0
  Turns =
      (met : ℕ) × (met ≤ total day) × (budget < nodes day) × (text ≡ page_text (ascii "result turns\ntotal at least ") first met (take (met - first) (page day first room)))

  listed_so : (one : PlansAnswer) → text ≡ answer_text one → answer_code one ≡ 108 → Lists day first room budget one → Listed
  unfolding answer_text
  listed_so one e c (lists-all r s) = inl (r, e)
  listed_so one e c (lists-page r l) = inr (l, e)
  listed_so one e c (lists-some met n l o) = absurd (omega (arith, c))

  turns_so : (one : PlansAnswer) → text ≡ answer_text one → answer_code one ≡ 116 → Lists day first room budget one → Turns
  unfolding answer_text
  turns_so one e c (lists-all r s) = absurd (omega (arith, c))
  turns_so one e c (lists-page r l) = absurd (omega (arith, c))
  turns_so one e c (lists-some met n l o) = (met, l, n, e)

  listed-text : Begins text "result listed\n" → Listed
  unfolding Answers
  listed-text b = go (prepared_of file) p.may
    where
      code : answer_code p.answer ≡ 108
      code = sym code_is ∙ letter text "result listed\n" 7 (omega arith) b

      go : (q : Prepared) → AnsweredBy q (Lists day first room budget) p.answer → Listed
      go prepared.ready l = listed_so p.answer p.says code l
      go prepared.clash e = absurd (let z = sym (ap answer_code e) ∙ code in omega (arith, z))
      go (prepared.refused number) e = absurd (let z = sym (ap answer_code e) ∙ code in omega (arith, z))

  turns-text : Begins text "result turns\n" → Turns
  unfolding Answers
  turns-text b = go (prepared_of file) p.may
    where
      code : answer_code p.answer ≡ 116
      code = sym code_is ∙ letter text "result turns\n" 7 (omega arith) b

      go : (q : Prepared) → AnsweredBy q (Lists day first room budget) p.answer → Turns
      go prepared.ready l = turns_so p.answer p.says code l
      go prepared.clash e = absurd (let z = sym (ap answer_code e) ∙ code in omega (arith, z))
      go (prepared.refused number) e = absurd (let z = sym (ap answer_code e) ∙ code in omega (arith, z))

  clash-text : Begins text "result clash\n" → Clashes (day_in file).lists.rows
  unfolding Answers
  clash-text b = go (prepared_of file) refl p.may
    where
      code : answer_code p.answer ≡ 99
      code = sym code_is ∙ letter text "result clash\n" 7 (omega arith) b

      not_listed : (one : PlansAnswer) → answer_code one ≡ 99 → Lists day first room budget one → ⊥
      not_listed one c (lists-all r s) = omega (arith, c)
      not_listed one c (lists-page r l) = omega (arith, c)
      not_listed one c (lists-some met n l o) = omega (arith, c)

      go : (q : Prepared) → prepared_of file ≡ q → AnsweredBy q (Lists day first room budget) p.answer → Clashes (day_in file).lists.rows
      go prepared.ready t l = absurd (not_listed p.answer code l)
      go prepared.clash t e = (clash-is (day_in file).lists.rows).0 (clash_prepared file t)
      go (prepared.refused number) t e = absurd (let z = sym (ap answer_code e) ∙ code in omega (arith, z))

  refused-text : Begins text "result refused " → (number : ℕ) × (text ≡ refused_text number) × (length file ≤ longest_file → file_judged file ≡ good → number ≡ 6)
  unfolding Answers answer_text
  refused-text b = go (prepared_of file) refl p.may
    where
      code : answer_code p.answer ≡ 114
      code = sym code_is ∙ letter text "result refused " 7 (omega arith) b

      not_listed : (one : PlansAnswer) → answer_code one ≡ 114 → Lists day first room budget one → ⊥
      not_listed one c (lists-all r s) = omega (arith, c)
      not_listed one c (lists-page r l) = omega (arith, c)
      not_listed one c (lists-some met n l o) = omega (arith, c)

      go : (q : Prepared) → prepared_of file ≡ q → AnsweredBy q (Lists day first room budget) p.answer
          → (number : ℕ) × (text ≡ refused_text number) × (length file ≤ longest_file → file_judged file ≡ good → number ≡ 6)
      go prepared.ready t l = absurd (not_listed p.answer code l)
      go prepared.clash t e = absurd (let z = sym (ap answer_code e) ∙ code in omega (arith, z))
      go (prepared.refused number) t e = (number, p.says ∙ ap answer_text e, λ short g. refused_prepared file short g number t)

  one_of-text : (one : PlansAnswer) → text ≡ answer_text one → Begins text "result listed\n" ⊎ (Begins text "result turns\n" ⊎ (Begins text "result clash\n" ⊎ Begins text "result refused "))
  unfolding answer_text page_text number_line clash_text refused_text
  one_of-text (answer.ended f all told) e = inl (ap (take 14) e)
  one_of-text (answer.goes_on f met told) e = inl (ap (take 14) e)
  one_of-text (answer.turns f met told) e = inr (inl (ap (take 13) e))
  one_of-text answer.clash e = inr (inr (inl (ap (take 13) e)))
  one_of-text (answer.refused number) e = inr (inr (inr (ap (take 15) e)))

  one-text : (other : List ℕ) (more : ℕ) → Prints file first room more other → (Begins text "result turns\n" → ⊥) → (Begins other "result turns\n" → ⊥) → text ≡ other
  one-text other more q n m =
      p.says
      ∙ ap answer_text
      (one_answer file first room budget more p.answer q.answer p.may q.may
      (in_time p.answer (λ b. n (ap (take 13) p.says ∙ b)))
      (in_time q.answer (λ b. m (ap (take 13) q.says ∙ b))))
      ∙ sym q.says

  pub list-text-is_true : ListTextIsTrue file first room budget text
  list-text-is_true =
      record {
        none = λ e list s. total-zero file first room budget p e list s.long (feasible-by day list (of_plan day list s));
        listed = listed-text;
        turns = turns-text;
        clash = clash-text;
        refusal = refused-text;
        one_of = one_of-text p.answer p.says;
        one = one-text;
        whole = λ r. text-fits file first room budget r p;
      }
