-- The listing as a call: its refusals, lowest number first, its answer and its buffer.
use Rattle.std.specs.Prelude.{cond, ℕ, leb, length, Result, Ok, Err}
use mathlib.Core.List.{List, flatten}
use Rattle.std.proofs.lemmas.List.Edits.{sets}
use Rattle.day_rows.specs.Told.{Told, done, refusal_tells, Outcome, outcome, judged}
use Rattle.day_rows.specs.declared.refusal.Refusal.{Refusal}
use Rattle.plan_check.specs.Day.{Day}
use Rattle.list_nodes.specs.Placements.{page, total, nodes}
use Rattle.list_nodes.specs.Judge.{judge_of}
use Rattle.list_all.specs.declared.list_plans.Listed.{Listed}
use Rattle.list_all.specs.declared.list_plans.Listed.TheVariants as listed

-- what a day that isn't refused gives: how many plans were written, how many there are and the nodes visited;
-- or out of turns
pub data PageTold : Type 0 where
  plans_told : (written total nodes : ℕ) → PageTold
  turns_told : PageTold

-- the cases of what list_plans answers of a day that it doesn't refuse, as what is told
abbrev pub list_tells : Listed → PageTold
list_tells (listed.Plans written total nodes) = plans_told written total nodes
list_tells listed.Turns = turns_told

-- what list_plans answers as what is told: the list, or why it is refused
abbrev pub listed_tells : Result Listed Refusal → Told PageTold
listed_tells (Ok list) = done (list_tells list)
listed_tells (Err why) = refusal_tells why

-- the outcome of a day that isn't refused: 'out of turns leaves the buffer untouched'; else the page stands
-- at the buffer's front, and what is past it is unchanged
unfoldable pub listed_of : Day → ℕ → ℕ → ℕ → List ℕ → Outcome PageTold (List ℕ)
listed_of day first room budget buffer =
    cond (leb (nodes day) budget)
    (outcome (done (plans_told (length (page day first room)) (total day) (nodes day)))
    (sets buffer 0 (flatten (page day first room))))
    (outcome (done turns_told) buffer)

-- the outcome of list_plans; a refusal leaves the buffer untouched
unfoldable pub list_of : Day → ℕ → ℕ → ℕ → List ℕ → Outcome PageTold (List ℕ)
list_of day first room budget buffer =
    judged (judge_of day room (length buffer)) buffer (listed_of day first room budget buffer)
