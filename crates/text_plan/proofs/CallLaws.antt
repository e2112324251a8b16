-- The call: its refusal, and the text with zeros after it.
use mathlib.Core.Path.{◌≡◌, refl, sym, ap}
use mathlib.Core.List.{List}
use Prim.Native.Nat.{ℕ, ◌≤◌}
use native.Mathlib.Omega.{arith}
use borrow.Author.Tests.{eq-eqb, ne_eqb}
use lib.ListN.{length, replicate}
use Rattle.std.specs.Prelude.{Result}
use Rattle.day_rows.specs.declared.refusal.Refusal.{Refusal}
use Rattle.day_rows.specs.Told.{tells, done, refuse, outcome}
use Rattle.day_rows.proofs.ToldLaws.{one_told-outcome}
use Rattle.day_rows.specs.declared.check.Takes.TheVariants as takes
use Rattle.day_rows.proofs.CountLaws.{within}
use Rattle.day_file.specs.FileDay.{row_counts}
use Rattle.day_file.specs.File.{day_in}
use Rattle.search_meaning.specs.Given.{Given}
use Rattle.text_lines.specs.Put.{pool, put_at}
use Rattle.text_lines.specs.PlanLines.{PlanAnswer, found, none, turns, clash, refused, answer_text}
use Rattle.text_lines.specs.Putting.{longest}
use Rattle.text_lines.proofs.PlanFitLaws.{Modest, answer-fits}
use Rattle.text_day.specs.Prepared.{Prepared, prepared_of}
use Rattle.text_day.specs.Prepared as prepared
use Rattle.text_day.proofs.FileLaws.{given, ready-good}
use Rattle.text_day.proofs.MadeLaws.{made-whole}
use Rattle.text_plan.specs.PlanAnswer.{day_answer, answer_by, answer_of}
use Rattle.text_plan.specs.steps.Meaning.{file_given, AnswerMeans}
use Rattle.text_plan.specs.Calls.{plan_text, text_judged, text_of}
use Rattle.text_plan.proofs.Meaning.{day_means}

-- ---- every answer's text has room

-- a plan of the day has no more places than the day has choices, each of a byte
modest : (day : Given) (answer : PlanAnswer) → day.counts.choices ≤ 64 → AnswerMeans day answer → Modest answer
modest day (found used passes limit plan) few such =
    record {
      few = let l = such.long in omega (arith, few, l);
      bytes = λ choice h. such.bytes choice (let l = such.long in omega (arith, h, l));
    }
modest day (none used passes limit) few such = tt
modest day (turns used passes limit) few such = tt
modest day clash few such = tt
modest day (refused number) few such = tt

module _ (file : List ℕ) where
  answer-modest : Modest (answer_of file)
  unfolding answer_of
  answer-modest = go (prepared_of file) refl
    where
      go : (p : Prepared) → prepared_of file ≡ p → Modest (answer_by p (day_answer (day_in file).counts (day_in file).lists))
      go prepared.ready e =
          let w = within (row_counts (day_in file).counts) takes.Given (given file (ready-good file (sym e))).in_range in
          modest (file_given file) (day_answer (day_in file).counts (day_in file).lists) w.choices (day_means (day_in file).counts (day_in file).lists)
      go prepared.clash e = tt
      go (prepared.refused number) e = tt

  -- no text is longer than the pool that is lent for it
  pub text-fits : length (plan_text file) ≤ longest
  unfolding plan_text
  text-fits = answer-fits (answer_of file) answer-modest

-- ---- the call

module _ (file pool' : List ℕ) where
  pub text-length : (length pool' ≡ longest → ⊥) → outcome (refuse 2) pool' ≡ text_of file pool'
  unfolding text_of text_judged
  text-length n = rw (ne_eqb _ _ n)

  pub text-made : length pool' ≡ longest → {cleared after : List ℕ} {size : ℕ} → cleared ≡ replicate (length pool') 0
      → pool after size ≡ put_at cleared 0 (plan_text file) → outcome (done size) after ≡ text_of file pool'
  unfolding text_of text_judged
  text-made e z w = rw (eq-eqb _ _ e) (made-whole longest (plan_text file) pool' (text-fits file) e z w)

-- a text by its answer
pub text-of : (file : List ℕ) {answer : PlanAnswer} → answer ≡ answer_of file → answer_text answer ≡ plan_text file
unfolding plan_text
text-of file e = ap answer_text e

-- no two outcomes fit the promise of the text
pub one-text : (file pool : List ℕ) {answer other : Result ℕ Refusal} {text rest : List ℕ} → outcome (tells answer) text ≡ text_of file pool → outcome (tells other) rest ≡ text_of file pool
    → (answer ≡ other) × (text ≡ rest)
one-text file pool = one_told-outcome
