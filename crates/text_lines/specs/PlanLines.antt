-- What the program `plan` answers, and the text that says it.
use Rattle.std.specs.Prelude.{cond, List, [], ◌∷◌, ◌++◌, ℕ, ◌+◌, eqb}
use Rattle.text_lines.specs.Text.{ascii, decimal, number_line, clash_text, refused_text}

-- an answer of `plan`: `found` with turns, passes, limit and the plan; `none` and `turns` with turns, passes
-- and limit; `clash`; or `refused` with 01's number
pub data PlanAnswer : Type 0 where
  found : ℕ → ℕ → ℕ → List ℕ → PlanAnswer
  none : ℕ → ℕ → ℕ → PlanAnswer
  turns : ℕ → ℕ → ℕ → PlanAnswer
  clash : PlanAnswer
  refused : ℕ → PlanAnswer

-- 'after found, none and turns also `turns`, `passes`, `limit`'
unfoldable pub figures_text : ℕ → ℕ → ℕ → List ℕ
figures_text used passes limit =
    number_line (ascii "turns ") used
    ++ (number_line (ascii "passes ") passes ++ number_line (ascii "limit ") limit)

-- '`slot` with its number or `out`'
unfoldable pub place_text : ℕ → List ℕ
place_text place = cond (eqb place 255) (ascii " out\n") (number_line (ascii " slot ") place)

-- a choice's line
unfoldable pub choice_line : ℕ → ℕ → List ℕ
choice_line choice place = ascii "choice " ++ (decimal choice ++ place_text place)

-- 'a line a choice', from a choice on
unfoldable pub choice_lines : ℕ → List ℕ → List ℕ
choice_lines choice [] = []
choice_lines choice (place ∷ places) = choice_line choice place ++ choice_lines (choice + 1) places

-- 'Line one is `result` then `found`, `none`, `turns`, `clash` (flag set, no search) or `refused N`', and
-- what comes after it
unfoldable pub answer_text : PlanAnswer → List ℕ
answer_text (found used passes limit plan) =
    ascii "result found\n" ++ (figures_text used passes limit ++ choice_lines 0 plan)
answer_text (none used passes limit) = ascii "result none\n" ++ figures_text used passes limit
answer_text (turns used passes limit) = ascii "result turns\n" ++ figures_text used passes limit
answer_text clash = clash_text
answer_text (refused number) = refused_text number
