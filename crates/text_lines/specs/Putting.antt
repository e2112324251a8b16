-- A text of `plan` put into a pool that holds any of them.
use Rattle.std.specs.Prelude.{Bool, cond, ◌&&◌, List, ℕ, leb, length}
use Rattle.text_lines.specs.Put.{Pool, pool, put_at}
use Rattle.text_lines.specs.PlanLines.{PlanAnswer, found, answer_text}

-- the length of the longest text of `plan`: 13 bytes of line one, three lines of 82 in all, and 64 choices at
-- 19 bytes
abbrev pub longest : ℕ
longest = 1311

-- an answer's text from the pool's front on if this holds; else the pool stays as it is
unfoldable pub put_if : Bool → List ℕ → PlanAnswer → Pool
put_if fits text answer = cond fits (put_at text 0 (answer_text answer)) (pool text 0)

-- an answer without a plan, put into a pool for the longest text
unfoldable pub put_whole : List ℕ → PlanAnswer → Pool
put_whole text answer = put_if (leb longest (length text)) text answer

-- the answer `found` with a plan of at most 64 choices, put into a pool for the longest text
unfoldable pub put_found : List ℕ → ℕ → ℕ → ℕ → List ℕ → Pool
put_found text used passes limit plan =
    put_if (leb (length plan) 64 && leb longest (length text)) text (found used passes limit plan)
