-- What an answer of `search` says of a day, by demand 3, for whoever calls it with the own map.
use Rattle.std.specs.Prelude.{List, ℕ, ◌<◌, Result, Ok, Err}
use Rattle.day_rows.specs.declared.refusal.Refusal.{Refusal}
use Rattle.search_meaning.specs.Given.{Given}
use Rattle.search_meaning.specs.declared.answer.Searched.{Searched}
use Rattle.search_meaning.specs.declared.answer.Searched.TheVariants as searched
use Rattle.search_meaning.specs.Demand.{turns_that_settle, SuchPlan}

-- found: the plan left is such a plan; none: there is no such plan; out of turns: fewer than (L+1)(2T+1) were
-- allowed; a refusal says nothing of plans
abbrev pub AnswerSays : Given → ℕ → List ℕ → Result Searched Refusal → Type 0
AnswerSays given turns after (Ok (searched.Found figures)) = SuchPlan given after
AnswerSays given turns after (Ok (searched.None figures)) = (list : List ℕ) → SuchPlan given list → ⊥
AnswerSays given turns after (Ok (searched.OutOfTurns figures)) = turns < turns_that_settle given
AnswerSays given turns after (Err why) = Unit {0}
