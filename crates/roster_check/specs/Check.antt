-- The roster check as a call: its refusals, lowest number first, and its answer.
use Rattle.std.specs.Prelude.{Bool, ◌&&◌, cond, List, [], ◌∷◌, ℕ, ◌+◌, ◌*◌, eqb, ltb, leb, length}
use Rattle.base_lists.specs.All.{all_at_most}
use Rattle.base_lists.specs.First.{first_failing}
use Rattle.day_rows.specs.Check.{counts_in_range, most_rows, row_keeps}
use Rattle.day_rows.specs.Told.{Told, done, refused, Verdict, good, unless, and_then}
use Rattle.day_rows.specs.declared.check.Counts.{Counts}
use Rattle.day_rows.specs.declared.check.Takes.{Takes}
use Rattle.day_rows.specs.declared.check.Takes.TheVariants.{Scheduling, Assignment}
use Rattle.day_rows.specs.Levels.{levels_rise, last_level}
use Rattle.roster_rows.specs.Seats.{cells_judged}
use Rattle.roster_check.specs.Sheet.{Sheet, row_counts}
use Rattle.roster_check.specs.Passes.{passes, highest}
use Rattle.roster_check.specs.declared.roster_check.RosterCounts.{RosterCounts}
use Rattle.roster_check.specs.declared.roster_check.Scored.{Scored}

-- what the check hands back, by its parts
abbrev pub scored : Bool → ℕ → Scored
scored passed highest = record { passed = passed; highest = highest }

-- 1: 'Choices C 0..64, slots S 0..24, choosers H 0..200, levels L 1..64', and two lists of at most 1,024 rows
unfoldable pub roster_counts_in_range : RosterCounts → Bool
roster_counts_in_range counts =
    counts_in_range (row_counts counts) Scheduling
    && leb 1 counts.levels
    && leb counts.levels 64
    && leb counts.assignment_rows (most_rows Assignment)

-- 2: 'every other slice .. at the length its counts give'
unfoldable pub roster_lengths_fit : Sheet → Bool
roster_lengths_fit sheet =
    eqb (length sheet.mins) sheet.counts.choices
    && eqb (length sheet.maxs) sheet.counts.choices
    && eqb (length sheet.levels) sheet.counts.levels
    && eqb (length sheet.preferences) (sheet.counts.choosers * sheet.counts.choices)
    && eqb (length sheet.rows) sheet.counts.rows
    && eqb (length sheet.assignment_rows) sheet.counts.assignment_rows
    && eqb (length sheet.plan) sheet.counts.choices
    && eqb (length sheet.roster) (sheet.counts.choosers * sheet.counts.slots)

-- the refusals of counts, lengths, levels and preferences: 1, 2, 3, 4
unfoldable pub lists_judged : Sheet → Verdict
lists_judged sheet =
    unless (roster_counts_in_range sheet.counts) 1
    (unless (roster_lengths_fit sheet) 2
    (unless (levels_rise sheet.levels) 3
    (unless (all_at_most (last_level sheet.levels) sheet.preferences) 4 good)))

-- 5: the first row of a list that breaks the table, counted from the rows before the list on
unfoldable pub list_judged : Counts → Takes → ℕ → List ℕ → Verdict
list_judged counts takes before rows =
    let first = first_failing (row_keeps counts takes) rows in
    cond (ltb first (length rows)) (refused 5 ((before + first) ∷ [])) good

-- 5 of both lists: the search's is judged first; 5 carries the row's place in the two one after the other
unfoldable pub rows_judged : Counts → List ℕ → List ℕ → Verdict
rows_judged counts rows assignment_rows =
    and_then (list_judged counts Scheduling 0 rows) (list_judged counts Assignment (length rows) assignment_rows)

-- the roster check as a call: its refusals, 'Lowest number first'; else passed or not, and in both cases the
-- highest preference met
unfoldable pub roster_check_of : Sheet → Told Scored
roster_check_of sheet =
    and_then (lists_judged sheet)
    (and_then (rows_judged (row_counts sheet.counts) sheet.rows sheet.assignment_rows)
    (and_then (cells_judged sheet.counts.slots sheet.plan sheet.roster)
    (done (scored (passes sheet) (highest sheet)))))
