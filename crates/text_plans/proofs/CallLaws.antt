-- The call: its two refusals, and the text with zeros after it.
use mathlib.Core.Path.{◌≡◌, refl, sym, ◌∙◌, ap, subst}
use mathlib.Core.List.{List, []}
use Prim.Native.Nat.{ℕ, ◌≤◌, ◌<◌}
use borrow.Author.Tests.{le-leb, lt-leb, eq-eqb, ne_eqb}
use lib.ListN.{length, replicate}
use Rattle.base_lists.specs.Pool.{pad}
use Rattle.day_rows.specs.Told.{done, refused, good, Outcome, outcome}
use Rattle.day_rows.specs.Told as verdict
use Rattle.day_rows.specs.declared.check.Takes.TheVariants as takes
use Rattle.day_rows.proofs.CountLaws.{within}
use Rattle.day_file.specs.FileDay.{row_counts}
use Rattle.day_file.specs.File.{day_in}
use Rattle.day_file.specs.Calls.{file_judged}
use Rattle.text_lines.specs.Put.{pool, put_at}
use Rattle.text_lines.specs.PlansLines.{PlansAnswer, answer_text}
use Rattle.text_lines.specs.Pages.{longest}
use Rattle.text_lines.proofs.PlansFitLaws.{Modest, answer-fits}
use Rattle.text_day.specs.Prepared.{Prepared, prepared_of}
use Rattle.text_day.specs.Prepared as prepared
use Rattle.text_day.proofs.FileLaws.{given, ready-good}
use Rattle.text_day.proofs.MadeLaws.{made-whole}
use Rattle.text_plans.specs.PlansAnswer.{search_day, Lists, AnsweredBy, file_day, Answers}
use Rattle.text_plans.specs.Calls.{Puts, Prints, text_judged, TextFits, refuses, prints}
use Rattle.text_plans.proofs.ListedLaws.{modest}

-- ---- every answer's text has room

module _ (file : List ℕ) (first room budget : ℕ) (r : room ≤ 1024) where
  -- the listing's, of a good file
  day-modest : file_judged file ≡ verdict.good → {answer : PlansAnswer} → Lists (file_day file) first room budget answer → Modest answer
  unfolding search_day
  day-modest e l =
      let w = within (row_counts (day_in file).counts) takes.Given (given file e).in_range in
      modest (file_day file) first room budget w.choices w.slots r l

  answer-modest : (answer : PlansAnswer) → Answers file first room budget answer → Modest answer
  unfolding Answers
  answer-modest answer h = go (prepared_of file) refl h
    where
      go : (p : Prepared) → prepared_of file ≡ p → AnsweredBy p (Lists (file_day file) first room budget) answer → Modest answer
      go prepared.ready e l = day-modest (ready-good file (sym e)) l
      go prepared.clash e a = subst Modest (sym a) tt
      go (prepared.refused number) e a = subst Modest (sym a) tt

  -- no text is longer than the pool that is lent for it
  pub text-fits : {text : List ℕ} → Prints file first room budget text → length text ≤ longest
  text-fits p = rw p.says (answer-fits p.answer (answer-modest p.answer p.may))

-- ---- the call

-- a text that is put is the text of an answer
pub puts_as : {May : PlansAnswer → Type 0} (answer : PlansAnswer) {bytes : List ℕ} → bytes ≡ answer_text answer → May answer → {text text' : List ℕ} {size : ℕ}
    → pool text' size ≡ put_at text 0 bytes → Puts May text text' size
puts_as answer e m {text} w = record { answer = answer; may = m; put = w ∙ ap (put_at text 0) e }

module _ (file : List ℕ) (first room budget : ℕ) (pool' : List ℕ) where
  pub text-room : 1024 < room → TextFits file first room budget pool' (refused 1 []) pool'
  unfolding text_judged
  text-room h = refuses 1 [] (rw (lt-leb _ _ h))

  pub text-length : room ≤ 1024 → (length pool' ≡ longest → ⊥) → TextFits file first room budget pool' (refused 2 []) pool'
  unfolding text_judged
  text-length r n = refuses 2 [] (rw (le-leb _ _ r, ne_eqb _ _ n))

  pub text-made : room ≤ 1024 → length pool' ≡ longest → {cleared after : List ℕ} {size : ℕ} → cleared ≡ replicate (length pool') 0
      → Puts (Answers file first room budget) cleared after size → TextFits file first room budget pool' (done size) after
  unfolding text_judged
  text-made r e {cleared} {after} {size} z p =
      let shown : Prints file first room budget (answer_text p.answer) = record { answer = p.answer; may = p.may; says = refl } in
      let w : outcome (done size) after ≡ outcome (done (length (answer_text p.answer))) (pad longest (answer_text p.answer)) = made-whole longest (answer_text p.answer) pool' (text-fits file first room budget r shown) e z p.put in
      subst (λ (o : Outcome ℕ (List ℕ)). TextFits file first room budget pool' o.answer o.buffers) (sym w) (prints (rw (le-leb _ _ r, eq-eqb _ _ e)) (answer_text p.answer) shown)
