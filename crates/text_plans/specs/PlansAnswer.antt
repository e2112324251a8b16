-- What the program `plans` answers to a file and three numbers: docs/PLANS.md as a definition.
use Rattle.std.specs.Prelude.{◌≡◌, ◌⊎◌, List, ℕ, ◌+◌, ◌-◌, ◌≤◌, ◌<◌, ◌^◌, length, take}
use Rattle.day_rows.specs.declared.check.Counts.{Counts}
use Rattle.reduce.specs.Reduction.{reduced_rows, search_list}
use Rattle.day_file.specs.FileDay.{row_counts}
use Rattle.day_file.specs.File.{day_in}
use Rattle.plan_check.specs.Day.{Day, day_of}
use Rattle.list_nodes.specs.Placements.{page, total, nodes}
use Rattle.text_lines.specs.PlansLines.{PlansAnswer, ended, goes_on, turns, clash, refused}
use Rattle.text_day.specs.Prepared.{Prepared, reduced_to, prepared_of, with_rows}
use Rattle.text_day.specs.Prepared as prepared

-- the day that is listed: with the rows of its reduction that the search takes
unfoldable pub search_day : Counts → List ℕ → List ℕ → List ℕ → List ℕ → Day
search_day counts mins maxs optional rows =
    let list = search_list (reduced_rows counts rows) in
    day_of (with_rows counts (length list)) mins maxs optional list

module _ (day : Day) (first room budget : ℕ) where
  -- what a day that is listed may answer: it speaks of request 03's list alone, and is settled but for when
  -- turns run out
  pub data Lists : PlansAnswer → Type 0 where
    -- no plan comes after the page, or the total alone was asked for; the total is of 64 bits
    lists-all : (room ≡ 0) ⊎ (total day ≤ first + room) → total day < 2 ^ 64
        → Lists (ended first (total day) (page day first room))
    -- the plan after the page was met
    lists-page : 0 < room → first + room < total day
        → Lists (goes_on first (first + room + 1) (page day first room))
    -- turns ran out, which they never do where request 03's nodes are within the budget: the plans of the
    -- page among those met
    lists-some : (met : ℕ) → budget < nodes day → met ≤ total day → (room ≡ 0) ⊎ (met ≤ first + room)
        → Lists (turns first met (take (met - first) (page day first room)))

-- what may be answered by what the file comes to: only a day that is ready is listed
abbrev pub AnsweredBy : Prepared → (PlansAnswer → Type 0) → PlansAnswer → Type 0
AnsweredBy prepared.ready Next answer = Next answer
AnsweredBy prepared.clash Next answer = answer ≡ clash
AnsweredBy (prepared.refused number) Next answer = answer ≡ refused number

-- what may be answered to a day that is reduced: 6, or a clash and nothing listed, or the listing
unfoldable pub ReduceAnswers : Counts → List ℕ → List ℕ → List ℕ → List ℕ → ℕ → ℕ → ℕ → PlansAnswer → Type 0
ReduceAnswers counts mins maxs optional rows first room budget =
    AnsweredBy (reduced_to counts rows) (Lists (search_day counts mins maxs optional rows) first room budget)

-- the day that a file lists
abbrev pub file_day : List ℕ → Day
file_day bytes =
    let day = day_in bytes in
    let lists = day.lists in
    search_day (row_counts day.counts) lists.mins lists.maxs lists.optional lists.rows

-- what may be answered to a file: its refusal, 6 or a clash, or the listing
unfoldable pub Answers : List ℕ → ℕ → ℕ → ℕ → PlansAnswer → Type 0
Answers bytes first room budget = AnsweredBy (prepared_of bytes) (Lists (file_day bytes) first room budget)
