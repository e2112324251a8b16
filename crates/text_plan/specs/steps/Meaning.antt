-- What an answer of `plan` says of the day in the file, by demand 3.
use Rattle.std.specs.Prelude.{List, ℕ, ◌<◌}
use Rattle.day_file.specs.File.{day_in}
use Rattle.search_meaning.specs.Given.{Given}
use Rattle.search_meaning.specs.Demand.{turns_that_settle, SuchPlan}
use Rattle.text_lines.specs.PlanLines.{PlanAnswer, found, none, turns, clash, refused}
use Rattle.text_plan.specs.PlanAnswer.{day_given}

-- what the search is given of the day in a file
abbrev pub file_given : List ℕ → Given
file_given file = day_given (day_in file).counts (day_in file).lists

-- what an answer means: `found`: the plan told is such a plan; `none`: there is no such plan; `turns`:
-- 1,000,000 are fewer than (L+1)(2T+1); a clash and a refusal say nothing of plans
abbrev pub AnswerMeans : Given → PlanAnswer → Type 0
AnswerMeans given (found used passes limit plan) = SuchPlan given plan
AnswerMeans given (none used passes limit) = (plan : List ℕ) → SuchPlan given plan → ⊥
AnswerMeans given (turns used passes limit) = 1000000 < turns_that_settle given
AnswerMeans given clash = Unit {0}
AnswerMeans given (refused number) = Unit {0}
