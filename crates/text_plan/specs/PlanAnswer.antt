-- What the program `plan` answers to a file: 01's 'Day file and plan program (added)' as a definition.
use Rattle.std.specs.Prelude.{false, List, [], ℕ, length, replicate}
use Rattle.day_rows.specs.Told.{Told}
use Rattle.day_rows.specs.Told as told
use Rattle.reduce.specs.Reduction.{reduced_rows, search_list}
use Rattle.sets_analysis.specs.declared.analysis.Analysis.TheVariants.{Simplified}
use Rattle.day_file.specs.FileDay.{Parts, row_counts}
use Rattle.day_file.specs.File.{day_in}
use Rattle.day_file.specs.declared.counts.FileCounts.{FileCounts}
use Rattle.search_meaning.specs.Given.{Given}
use Rattle.search_meaning.specs.Calls.{Settled, plan, no_plan, out_of_turns}
use Rattle.search_meaning.specs.declared.answer.Figures.{Figures}
use Rattle.search_meaning.specs.declared.settings.Settings.{Settings}
use Rattle.search_day.specs.Planning.{given_own, full_by, plan_day_of}
use Rattle.search_day.specs.declared.given.PlanCounts.{PlanCounts}
use Rattle.text_lines.specs.declared.plan_lines.Figures as lines
use Rattle.text_lines.specs.PlanLines.{PlanAnswer, found, none, turns, clash, refused}
use Rattle.text_day.specs.Prepared.{Prepared, reduced_to, prepared_of}
use Rattle.text_day.specs.Prepared as prepared

-- 'the full search .., analysis with simplifying, .. start at the bound, pass budget 100,000, total
-- 1,000,000'
abbrev pub plan_settings : Settings
plan_settings = full_by Simplified false 100000 1000000

-- the counts that the search is asked with: a file's, and so many rows
abbrev pub plan_counts : FileCounts → ℕ → PlanCounts
plan_counts counts rows =
    record {
      choices = counts.choices;
      slots = counts.slots;
      choosers = counts.choosers;
      levels = counts.levels;
      rows = rows;
    }

-- a search's figures as the text says them
abbrev pub said : Figures → lines.Figures
said figures = record { turns = figures.turns; passes = figures.passes; limit = figures.limit }

-- the answer of a search that is settled: `found`, `none` or `turns`, each with its figures
abbrev pub settled_answer : Settled → List ℕ → PlanAnswer
settled_answer (plan figures) after = found figures.turns figures.passes figures.limit after
settled_answer (no_plan figures) after = none figures.turns figures.passes figures.limit
settled_answer (out_of_turns figures) after = turns figures.turns figures.passes figures.limit

-- the answer by what the search's call tells, and the plan that it leaves
abbrev pub told_answer : Told Settled → List ℕ → PlanAnswer
told_answer (told.done settled) after = settled_answer settled after
told_answer (told.refused number carried) after = refused number

-- 'the full search with own map, .. no orders or draws', of a day with these rows
unfoldable pub search_answer : PlanCounts → List ℕ → List ℕ → List ℕ → List ℕ → List ℕ → List ℕ → PlanAnswer
search_answer counts mins maxs optional levels preferences rows =
    let blank : List ℕ = replicate counts.choices 0 in
    let searched = plan_day_of counts mins maxs optional levels preferences rows [] [] plan_settings blank in
    told_answer searched.answer searched.buffers

-- 'its rows of kinds 1 to 6, in order, are the search's list'
abbrev pub search_rows : FileCounts → Parts → List ℕ
search_rows counts lists = search_list (reduced_rows (row_counts counts) lists.rows)

-- the answer to the search of a day with the rows of its reduction that it takes
unfoldable pub day_answer : FileCounts → Parts → PlanAnswer
day_answer counts lists =
    let rows = search_rows counts lists in
    search_answer (plan_counts counts (length rows)) lists.mins lists.maxs lists.optional
    lists.levels lists.preferences rows

-- what the search of a day is given: the day with these rows and their own map, no orders and no draws
abbrev pub day_given : FileCounts → Parts → Given
day_given counts lists =
    let rows = search_rows counts lists in
    given_own (plan_counts counts (length rows)) lists.mins lists.maxs lists.optional
    lists.levels lists.preferences rows [] []

-- the answer by what the file comes to: only a day that is ready is searched
abbrev pub answer_by : Prepared → PlanAnswer → PlanAnswer
answer_by prepared.ready next = next
answer_by prepared.clash next = clash
answer_by (prepared.refused number) next = refused number

-- the answer to a day that is reduced: 6, or a clash and no search, or the search
unfoldable pub reduce_answer : FileCounts → Parts → PlanAnswer
reduce_answer counts lists = answer_by (reduced_to (row_counts counts) lists.rows) (day_answer counts lists)

-- the answer to a file: its refusal, 6 or a clash, or the search
unfoldable pub answer_of : List ℕ → PlanAnswer
answer_of file = answer_by (prepared_of file) (day_answer (day_in file).counts (day_in file).lists)
