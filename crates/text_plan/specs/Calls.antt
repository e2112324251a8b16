-- The text of `plan` as a call: its refusal, its answer and its pool.
use Rattle.std.specs.Prelude.{List, ℕ, eqb, length}
use Rattle.day_rows.specs.Told.{Verdict, good, unless, Outcome}
use Rattle.text_lines.specs.PlanLines.{answer_text}
use Rattle.text_lines.specs.Putting.{longest}
use Rattle.text_day.specs.Made.{made_of}
use Rattle.text_plan.specs.PlanAnswer.{answer_of}

-- the whole text that `plan` prints for a file
unfoldable pub plan_text : List ℕ → List ℕ
plan_text file = answer_text (answer_of file)

-- 2 for a pool that isn't lent at its full limit
unfoldable pub text_judged : ℕ → Verdict
text_judged size = unless (eqb size longest) 2 good

-- what the call tells and leaves: the text, and zeros after it; a refusal leaves the pool untouched
unfoldable pub text_of : List ℕ → List ℕ → Outcome ℕ (List ℕ)
text_of file pool = made_of longest (text_judged (length pool)) pool (plan_text file)
