-- What a file comes to before its day is listed or planned.
use Rattle.std.specs.Prelude.{cond, List, ℕ, leb, length}
use Rattle.day_rows.specs.Told.{Verdict}
use Rattle.day_rows.specs.Told as verdict
use Rattle.day_rows.specs.declared.check.Counts.{Counts}
use Rattle.reduce_turn.specs.Turn.{clash_of}
use Rattle.reduce.specs.Reduction.{expanded}
use Rattle.day_file.specs.FileDay.{row_counts}
use Rattle.day_file.specs.File.{day_in, longest_file}
use Rattle.day_file.specs.Calls.{file_judged}

-- what a file comes to: a day that is ready, a day whose rows clash, or a refusal with 01's number
pub data Prepared : Type 0 where
  ready : Prepared
  clash : Prepared
  refused : ℕ → Prepared

-- 'reduces once': 6 if 'reduction has over 1,024 rows before equals are dropped', and only then '`clash`
-- (flag set, no search)'
unfoldable pub reduced_to : Counts → List ℕ → Prepared
reduced_to counts rows =
    cond (leb (length (expanded counts rows)) 1024) (cond (clash_of rows) clash ready) (refused 6)

-- a refusal's number, else what comes next
abbrev pub judged_to : Verdict → Prepared → Prepared
judged_to (verdict.done value) next = next
judged_to (verdict.refused number carried) next = refused number

-- 'reads a file on standard input (over 26,827 bytes: 11), reduces once'
unfoldable pub prepared_of : List ℕ → Prepared
prepared_of file =
    let day = day_in file in
    let reduced = reduced_to (row_counts day.counts) day.lists.rows in
    cond (leb (length file) longest_file) (judged_to (file_judged file) reduced) (refused 11)

-- the counts of a day whose list of rows is this long
abbrev pub with_rows : Counts → ℕ → Counts
with_rows counts rows =
    record { choices = counts.choices; slots = counts.slots; choosers = counts.choosers; rows = rows }
