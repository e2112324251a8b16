-- The row check: what the table asks of a row, the ranges of the counts, and the answer of the call.
use Rattle.std.specs.Prelude.{Bool, true, false, ◌&&◌, cond, List, [], ◌∷◌, ℕ, eqb, ltb, leb, pos, neg_ℤ, length}
use Rattle.std.specs.Int.Signed.{le_z}
use Rattle.base_lists.specs.First.{first_failing}
use Rattle.day_rows.specs.Kinds.{columns_of}
use Rattle.day_rows.specs.Op.{signed_of, extra_of, is_op}
use Rattle.day_rows.specs.Row.{row_of}
use Rattle.day_rows.specs.Told.{refused, Verdict, good, unless}
use Rattle.day_rows.specs.declared.table.Part.{Part}
use Rattle.day_rows.specs.declared.table.Part.TheVariants as part
use Rattle.day_rows.specs.declared.table.Name.{Name}
use Rattle.day_rows.specs.declared.table.Name.TheVariants as name
use Rattle.day_rows.specs.declared.check.Counts.{Counts}
use Rattle.day_rows.specs.declared.check.Takes.{Takes}
use Rattle.day_rows.specs.declared.check.Takes.TheVariants as takes

-- which parts of the table a call takes: 'Search and plan check take kinds 1 to 6 only, the roster's
-- assignment list 10 to 13 only'
abbrev pub takes_part : Takes → Part → Bool
takes_part takes.Given part.Refused = false
takes_part takes.Given part.GivenOnly = true
takes_part takes.Given part.Scheduling = true
takes_part takes.Given part.Assignment = true
takes_part takes.Scheduling part.Refused = false
takes_part takes.Scheduling part.GivenOnly = false
takes_part takes.Scheduling part.Scheduling = true
takes_part takes.Scheduling part.Assignment = false
takes_part takes.Assignment part.Refused = false
takes_part takes.Assignment part.GivenOnly = false
takes_part takes.Assignment part.Scheduling = false
takes_part takes.Assignment part.Assignment = true

-- what a column may hold: a number under its count, 'limit 0..65,535', 'offset -32,767..32,767', an op;
-- 'Extra is 0 elsewhere'
abbrev pub column_holds : Counts → Name → ℕ → Bool
column_holds counts name.None value = eqb value (extra_of (pos 0))
column_holds counts name.Choice value = ltb value counts.choices
column_holds counts name.Slot value = ltb value counts.slots
column_holds counts name.Chooser value = ltb value counts.choosers
column_holds counts name.Limit value = leb value 65535
column_holds counts name.Offset value =
    le_z (neg_ℤ (pos 32767)) (signed_of value) && le_z (signed_of value) (pos 32767)
column_holds counts name.Op value = is_op value

-- a number of a pool stands for a row that keeps the table: the call takes its kind, and left, right and
-- extra hold what the kind's line names
unfoldable pub row_keeps : Counts → Takes → ℕ → Bool
row_keeps counts takes number =
    let row = row_of number in
    let columns = columns_of row.kind in
    takes_part takes columns.0
    && column_holds counts columns.1 row.left
    && column_holds counts columns.2 row.right
    && column_holds counts columns.3 row.extra

-- the rows of a list judged, 5: 'a row breaks the table; carries the first such row'
unfoldable pub rows_judged : Counts → Takes → List ℕ → Verdict
rows_judged counts takes rows =
    let first = first_failing (row_keeps counts takes) rows in
    cond (ltb first (length rows)) (refused 5 (first ∷ [])) good

-- the most rows that a list may have: 'given rows 0..128, reduced rows 0..1,024'
abbrev pub most_rows : Takes → ℕ
most_rows takes.Given = 128
most_rows takes.Scheduling = 1024
most_rows takes.Assignment = 1024

-- each count is in its range: 'Choices C 0..64, slots S 0..24, choosers H 0..200', and the rows
unfoldable pub counts_in_range : Counts → Takes → Bool
counts_in_range counts takes =
    leb counts.choices 64
    && leb counts.slots 24
    && leb counts.choosers 200
    && leb counts.rows (most_rows takes)

-- the row check as a call: 1 where a count is out of its range, 2 where the list isn't as long as its count,
-- 5, or good
unfoldable pub check_of : Counts → Takes → List ℕ → Verdict
check_of counts takes rows =
    unless (counts_in_range counts takes) 1
    (unless (eqb (length rows) counts.rows) 2
    (rows_judged counts takes rows))
