-- What the program `plans` answers, and the text that says it: docs/PLANS.md as a definition.
use Rattle.std.specs.Prelude.{cond, ℕ, ◌+◌, eqb}
use mathlib.Core.List.{List, [], ◌∷◌, ◌++◌, flat_map}
use Rattle.text_lines.specs.Text.{ascii, decimal, number_line, clash_text, refused_text}

-- an answer of `plans`: the list ends with the page, with the first number, the total and the page; it goes
-- on after the page, with the plans met; out of turns, with the plans met and those of the page among them; a
-- clash; or refused with 01's number
pub data PlansAnswer : Type 0 where
  ended : ℕ → ℕ → List (List ℕ) → PlansAnswer
  goes_on : ℕ → ℕ → List (List ℕ) → PlansAnswer
  turns : ℕ → ℕ → List (List ℕ) → PlansAnswer
  clash : PlansAnswer
  refused : ℕ → PlansAnswer

-- a choice's place on a plan's line: its slot, or `out`
unfoldable pub place_text : ℕ → List ℕ
place_text place = cond (eqb place 255) (ascii " out") (ascii " " ++ decimal place)

-- a plan's line: `plan`, its number in the list, then the place of each choice
unfoldable pub plan_line : ℕ → List ℕ → List ℕ
plan_line number plan = ascii "plan " ++ (decimal number ++ (flat_map place_text plan ++ ascii "\n"))

-- the lines of plans, numbered one after another
unfoldable pub plan_lines : ℕ → List (List ℕ) → List ℕ
plan_lines number [] = []
plan_lines number (plan ∷ plans) = plan_line number plan ++ plan_lines (number + 1) plans

-- the text of a page: a head with a number at its end, then the plans
unfoldable pub page_text : List ℕ → ℕ → ℕ → List (List ℕ) → List ℕ
page_text head first number plans = number_line head number ++ plan_lines first plans

-- the whole text of an answer: line one, and what comes after it
unfoldable pub answer_text : PlansAnswer → List ℕ
answer_text (ended first total plans) = page_text (ascii "result listed\ntotal ") first total plans
answer_text (goes_on first met plans) = page_text (ascii "result listed\ntotal at least ") first met plans
answer_text (turns first met plans) = page_text (ascii "result turns\ntotal at least ") first met plans
answer_text clash = clash_text
answer_text (refused number) = refused_text number
