-- What a file, a day and a search answer, a law for each way through the functions that put the text.
use mathlib.Core.Path.{◌≡◌, refl, sym, ◌∙◌, ap, subst}
use mathlib.Core.List.{List, [], ◌∷◌, ◌++◌}
use Prim.Native.Nat.{ℕ, zero, suc, ◌≤◌}
use native.Mathlib.Nat.{le_of_suc-le-suc, not-suc-le-zero}
use native.Mathlib.Omega.{arith}
use lib.ListN.{length, take, replicate}
use lib.Seq.{take_at}
use Rattle.std.specs.Prelude.{Result, Ok, Err}
use Rattle.day_rows.specs.Refusal.{number_of}
use Rattle.day_rows.specs.Told.{Outcome, outcome}
use Rattle.day_rows.specs.declared.check.Takes.TheVariants as takes
use Rattle.day_rows.specs.declared.refusal.Refusal.{Refusal}
use Rattle.day_rows.proofs.CountLaws.{within}
use Rattle.day_file.specs.FileDay.{Parts, parts, FileDay, row_counts}
use Rattle.day_file.specs.File.{day_in}
use Rattle.day_file.specs.declared.counts.FileCounts.{FileCounts}
use Rattle.search_meaning.specs.Calls.{Settled, searched_tells}
use Rattle.search_meaning.specs.declared.answer.Figures.{Figures}
use Rattle.search_meaning.specs.declared.answer.Searched.{Searched}
use Rattle.search_meaning.specs.declared.answer.Searched.TheVariants as searched
use Rattle.search_meaning.specs.SearchAnswer.{AnswerSays}
use Rattle.search_day.specs.Planning.{given_own, plan_day_of}
use Rattle.search_day.specs.declared.given.PlanCounts.{PlanCounts}
use Rattle.text_lines.specs.declared.plan_lines.Figures as lines
use Rattle.text_lines.specs.Put.{Pool, put_at}
use Rattle.text_lines.specs.PlanLines.{PlanAnswer, none, turns, clash, refused, answer_text}
use Rattle.text_lines.specs.Putting.{put_whole, put_found}
use Rattle.text_lines.proofs.PuttingLaws.{whole-put, found-put}
use Rattle.text_day.specs.steps.FileRead.{DayRead}
use Rattle.text_day.specs.Prepared.{Prepared, reduced_to, prepared_of}
use Rattle.text_day.specs.Prepared as prepared
use Rattle.text_day.specs.steps.FileGiven.{FileGiven}
use Rattle.text_day.proofs.FileLaws.{prepared_day}
use Rattle.text_plan.specs.PlanAnswer.{plan_settings, plan_counts, said, told_answer, search_answer, search_rows, day_answer, answer_by, reduce_answer, answer_of}

-- the front of zeros is zeros
take-zeros : (n m : ℕ) → n ≤ m → take {A = ℕ} n (replicate m 0) ≡ replicate n 0
take-zeros zero m h = refl
take-zeros (suc n) zero h = absurd (not-suc-le-zero h)
take-zeros (suc n) (suc m) h = ap (λ (l : List ℕ). 0 ∷ l) (take-zeros n m (le_of_suc-le-suc h))

-- ---- the search of a day

module _ (day : FileCounts) (mins maxs optional levels preferences rows : List ℕ) {counts : PlanCounts} (asked : counts ≡ plan_counts day (length rows)) (few-choices : day.choices ≤ 64) (array : List ℕ) (blank : array ≡ replicate 64 0) where
  few : counts.choices ≤ 64
  few = let c = ap (λ (n : PlanCounts). n.choices) asked in omega (arith, c, few-choices)

  blank-is : take counts.choices array ≡ replicate counts.choices 0
  blank-is = ap (take counts.choices) blank ∙ take-zeros counts.choices 64 few

  abbrev answered : PlanAnswer
  answered = search_answer (plan_counts day (length rows)) mins maxs optional levels preferences rows

  -- the text of an answer with no plan
  whole_told : {figures : Figures} (saying : ℕ → ℕ → ℕ → PlanAnswer) → saying figures.turns figures.passes figures.limit ≡ answered → (text : List ℕ) → length text ≡ 1311
      → {shown : lines.Figures} → shown ≡ said figures → {put : Pool} → put ≡ put_whole text (saying shown.turns shown.passes shown.limit) → put ≡ put_at text 0 (answer_text answered)
  whole_told {figures} saying a text l s w =
      w
      ∙ ap (λ (f : lines.Figures). put_whole text (saying f.turns f.passes f.limit)) s
      ∙ sym (whole-put text (saying figures.turns figures.passes figures.limit) (omega (arith, l)))
      ∙ ap (λ (a : PlanAnswer). put_at text 0 (answer_text a)) a

  module _ {answer : Result Searched Refusal} {after : List ℕ} (e : (outcome (searched_tells answer) after ≡ plan_day_of counts mins maxs optional levels preferences rows [] [] plan_settings (take counts.choices array)) × AnswerSays (given_own counts mins maxs optional levels preferences rows [] []) 1000000 after answer) where
    -- what the call tells is the answer
    told : (known : Result Searched Refusal) → answer ≡ known → told_answer (searched_tells known) after ≡ answered
    unfolding search_answer
    told known k =
        ap (λ (o : Outcome Settled (List ℕ)). told_answer o.answer o.buffers)
        (ap (λ (a : Result Searched Refusal). outcome (searched_tells a) after) (sym k)
        ∙ e.0
        ∙ ap (λ (before : List ℕ). plan_day_of counts mins maxs optional levels preferences rows [] [] plan_settings before) blank-is)
        ∙ ap (λ (n : PlanCounts). search_answer n mins maxs optional levels preferences rows) asked

    module _ {figures : Figures} where
      module _ (k : answer ≡ Ok (searched.Found figures)) where
        found-long : length after ≡ counts.choices
        found-long = (subst (AnswerSays (given_own counts mins maxs optional levels preferences rows [] []) 1000000 after) k e.1).long

        pub found-told : (rest text : List ℕ) → length text ≡ 1311 → {shown : lines.Figures} → shown ≡ said figures → {put : Pool}
            → put ≡ put_found text shown.turns shown.passes shown.limit (take counts.choices (after ++ rest)) → put ≡ put_at text 0 (answer_text answered)
        found-told rest text l s w =
            w
            ∙ ap (λ (f : lines.Figures). put_found text f.turns f.passes f.limit (take counts.choices (after ++ rest))) s
            ∙ ap (put_found text figures.turns figures.passes figures.limit) (take_at after rest counts.choices found-long)
            ∙ sym (found-put text figures.turns figures.passes figures.limit after (let f = found-long in omega (arith, few, f)) (omega (arith, l)))
            ∙ ap (λ (a : PlanAnswer). put_at text 0 (answer_text a)) (told (Ok (searched.Found figures)) k)

      pub none_told : answer ≡ Ok (searched.None figures) → (text : List ℕ) → length text ≡ 1311 → {shown : lines.Figures} → shown ≡ said figures → {put : Pool}
          → put ≡ put_whole text (none shown.turns shown.passes shown.limit) → put ≡ put_at text 0 (answer_text answered)
      none_told k = whole_told none (told (Ok (searched.None figures)) k)

      pub turns-told : answer ≡ Ok (searched.OutOfTurns figures) → (text : List ℕ) → length text ≡ 1311 → {shown : lines.Figures} → shown ≡ said figures → {put : Pool}
          → put ≡ put_whole text (turns shown.turns shown.passes shown.limit) → put ≡ put_at text 0 (answer_text answered)
      turns-told k = whole_told turns (told (Ok (searched.OutOfTurns figures)) k)

    pub refused-told : {why : Refusal} → answer ≡ Err why → refused (number_of why) ≡ answered
    refused-told {why} k = told (Err why) k

-- ---- the reduction of a day

-- a day that is read has few choices
pub few-choices : (counts : FileCounts) {mins maxs optional rows : List ℕ} → FileGiven (row_counts counts) mins maxs optional rows → counts.choices ≤ 64
few-choices counts g = (within (row_counts counts) takes.Given g.in_range).choices

module _ (counts : FileCounts) (mins maxs optional levels preferences rows : List ℕ) where
  abbrev lists : Parts
  lists = parts mins maxs optional levels preferences rows

  pub reduce-refused : {number : ℕ} → prepared.refused number ≡ reduced_to (row_counts counts) rows → refused number ≡ reduce_answer counts lists
  unfolding reduce_answer
  reduce-refused e = ap (λ (p : Prepared). answer_by p (day_answer counts lists)) e

  pub reduce-clash : prepared.clash ≡ reduced_to (row_counts counts) rows → clash ≡ reduce_answer counts lists
  unfolding reduce_answer
  reduce-clash e = ap (λ (p : Prepared). answer_by p (day_answer counts lists)) e

  pub reduce-ready : prepared.ready ≡ reduced_to (row_counts counts) rows → {list : List ℕ} → list ≡ search_rows counts lists
      → search_answer (plan_counts counts (length list)) mins maxs optional levels preferences list ≡ reduce_answer counts lists
  unfolding reduce_answer day_answer
  reduce-ready r {list} l =
      ap (λ (k : List ℕ). search_answer (plan_counts counts (length k)) mins maxs optional levels preferences k) l
      ∙ ap (λ (p : Prepared). answer_by p (day_answer counts lists)) r

-- ---- a file

module _ (file : List ℕ) where
  pub answer-refused : {number : ℕ} → prepared.refused number ≡ prepared_of file → refused number ≡ answer_of file
  unfolding answer_of
  answer-refused e = ap (λ (p : Prepared). answer_by p (day_answer (day_in file).counts (day_in file).lists)) e

  -- the answer to the day that is read is the file's
  pub day-answer : {day : FileDay} → DayRead file day → reduce_answer day.counts day.lists ≡ answer_of file
  unfolding answer_of reduce_answer
  day-answer d =
      ap (λ (day : FileDay). reduce_answer day.counts day.lists) d.is-files
      ∙ ap (λ (p : Prepared). answer_by p (day_answer (day_in file).counts (day_in file).lists)) (prepared_day file d.short d.is-good)
