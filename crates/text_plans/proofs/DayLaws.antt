-- What a day that is read and reduced may answer, and that the listing takes it.
use mathlib.Core.Path.{◌≡◌, refl, sym, ◌∙◌, ap, subst}
use mathlib.Core.Bool.{Bool}
use mathlib.Core.List.{List}
use Prim.Native.Nat.{ℕ, ◌*◌, ◌≤◌}
use native.Mathlib.Omega.{arith}
use borrow.Author.Tests.{le-leb, eq-eqb}
use lib.ListN.{length, take}
use Rattle.day_rows.specs.Check.{counts_in_range}
use Rattle.day_rows.specs.Told.{good}
use Rattle.day_rows.specs.declared.check.Counts.{Counts}
use Rattle.day_rows.specs.declared.check.Takes.TheVariants as takes
use Rattle.day_rows.proofs.CountLaws.{within}
use Rattle.reduce.specs.Reduction.{reduced_rows, search_list}
use Rattle.day_file.specs.FileDay.{FileDay, row_counts}
use Rattle.plan_check.specs.Day.{Day, day_of}
use Rattle.list_nodes.specs.Judge.{judge_of}
use Rattle.list_nodes.proofs.JudgeLaws.{buffer-decides, judge_good}
use Rattle.text_lines.specs.PlansLines.{PlansAnswer, clash, refused}
use Rattle.text_day.specs.steps.FileRead.{DayRead}
use Rattle.text_day.specs.Prepared.{Prepared, reduced_to, prepared_of, with_rows}
use Rattle.text_day.specs.Prepared as prepared
use Rattle.text_day.specs.steps.FileGiven.{FileGiven}
use Rattle.text_day.proofs.SearchLaws.{search-good}
use Rattle.text_day.proofs.ReduceLaws.{Reduces, searches_are, searches_front, searches_few}
use Rattle.text_day.proofs.FileLaws.{prepared_day}
use Rattle.text_plans.specs.PlansAnswer.{search_day, Lists, AnsweredBy, ReduceAnswers, file_day, Answers}
use Rattle.text_plans.specs.Calls.{Puts}

-- ---- the reduction of a day

module _ (counts : Counts) (mins maxs optional rows : List ℕ) (first room budget : ℕ) where
  -- what the listing of the day may answer
  abbrev May : PlansAnswer → Type 0
  May = Lists (search_day counts mins maxs optional rows) first room budget

  pub reduce-refused : {number : ℕ} → prepared.refused number ≡ reduced_to counts rows → ReduceAnswers counts mins maxs optional rows first room budget (refused number)
  unfolding ReduceAnswers
  reduce-refused {number} e = subst (λ (p : Prepared). AnsweredBy p May (refused number)) e refl

  pub reduce-clash : prepared.clash ≡ reduced_to counts rows → ReduceAnswers counts mins maxs optional rows first room budget clash
  unfolding ReduceAnswers
  reduce-clash e = subst (λ (p : Prepared). AnsweredBy p May clash) e refl

  reduce-ready : prepared.ready ≡ reduced_to counts rows → {answer : PlansAnswer} → Lists (search_day counts mins maxs optional rows) first room budget answer
      → ReduceAnswers counts mins maxs optional rows first room budget answer
  unfolding ReduceAnswers
  reduce-ready e {answer} l = subst (λ (p : Prepared). AnsweredBy p May answer) e l

  -- the text of the day that is listed is the text of the day that is reduced
  pub reduce_puts : prepared.ready ≡ reduced_to counts rows → {day : Day} → day ≡ search_day counts mins maxs optional rows → {text text' : List ℕ} {size : ℕ}
      → Puts (Lists day first room budget) text text' size → Puts (ReduceAnswers counts mins maxs optional rows first room budget) text text' size
  reduce_puts e d p =
      record { answer = p.answer; may = reduce-ready e (subst (λ (day : Day). Lists day first room budget p.answer) d p.may); put = p.put }

module _ (counts : Counts) (mins maxs optional rows : List ℕ) (g : FileGiven counts mins maxs optional rows) where
  -- the listing refuses no day that was read and reduced
  pub search-judged : (room : ℕ) → length (search_list (reduced_rows counts rows)) ≤ 1024
      → judge_of (search_day counts mins maxs optional rows) room (room * counts.choices) ≡ good
  unfolding search_day counts_in_range
  search-judged room few =
      let w = within counts takes.Given g.in_range in
      let day = search_day counts mins maxs optional rows in
      let size = room * counts.choices in
      sym (judge_good day room size (rw (le-leb _ _ w.choices, le-leb _ _ w.slots, le-leb _ _ w.choosers, le-leb _ _ few))
      (sym (buffer-decides day room size g.mins-fit g.maxs-fit g.optional-fits refl) ∙ eq-eqb size size refl)
      (sym (search-good counts rows (length (search_list (reduced_rows counts rows))) g.in_range g.rows-good))
      g.flags-fit)

  -- the day that is listed: its rows are as many as were counted
  module _ {count : ℕ} {clashes : Bool} {pool : List ℕ} (r : Reduces counts mins maxs optional rows g count clashes pool) {searches : ℕ} (e : searches ≡ length (search_list (take count pool))) where
    pub day-is : day_of (with_rows counts searches) mins maxs optional (take searches pool) ≡ search_day counts mins maxs optional rows
    unfolding search_day
    day-is =
        ap (λ (l : List ℕ). day_of (with_rows counts searches) mins maxs optional l) (searches_front counts mins maxs optional rows g r e)
        ∙ ap (λ (n : ℕ). day_of (with_rows counts n) mins maxs optional (search_list (reduced_rows counts rows))) (searches_are counts mins maxs optional rows g r e)

    pub day-judged : (room : ℕ) → judge_of (day_of (with_rows counts searches) mins maxs optional (take searches pool)) room (room * counts.choices) ≡ good
    day-judged room =
        ap (λ (d : Day). judge_of d room (room * counts.choices)) day-is
        ∙ search-judged room (let h = searches_few counts mins maxs optional rows g r e in omega (arith, h, searches_are counts mins maxs optional rows g r e))

-- ---- a file

module _ (file : List ℕ) (first room budget : ℕ) where
  pub answer-refused : {number : ℕ} → prepared.refused number ≡ prepared_of file → Answers file first room budget (refused number)
  unfolding Answers
  answer-refused {number} e = subst (λ (p : Prepared). AnsweredBy p (Lists (file_day file) first room budget) (refused number)) e refl

  day-answer : {day : FileDay} → DayRead file day → (answer : PlansAnswer)
      → ReduceAnswers (row_counts day.counts) day.lists.mins day.lists.maxs day.lists.optional day.lists.rows first room budget answer → Answers file first room budget answer
  unfolding Answers ReduceAnswers
  day-answer d answer h =
      subst (λ (p : Prepared). AnsweredBy p (Lists (file_day file) first room budget) answer) (prepared_day file d.short d.is-good)
      (subst (λ (day : FileDay). ReduceAnswers (row_counts day.counts) day.lists.mins day.lists.maxs day.lists.optional day.lists.rows first room budget answer) d.is-files h)

  -- the text of the day that is read is the file's
  pub day_puts : {day : FileDay} → DayRead file day → {text text' : List ℕ} {size : ℕ}
      → Puts (ReduceAnswers (row_counts day.counts) day.lists.mins day.lists.maxs day.lists.optional day.lists.rows first room budget) text text' size
      → Puts (Answers file first room budget) text text' size
  day_puts d p = record { answer = p.answer; may = day-answer d p.answer p.may; put = p.put }
