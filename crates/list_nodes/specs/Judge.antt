-- The refusals of the listing.
use Rattle.std.specs.Prelude.{Bool, ◌&&◌, ℕ, ◌*◌, eqb, length}
use Rattle.day_rows.specs.Check.{counts_in_range, rows_judged}
use Rattle.day_rows.specs.Told.{Verdict, unless, and_then}
use Rattle.day_rows.specs.declared.check.Takes.TheVariants.{Scheduling}
use Rattle.plan_check.specs.Day.{Day}
use Rattle.plan_check.specs.Check.{flags_judged}

-- refusal 2: 'a lent slice has the wrong length'; the buffer has C bytes for each plan that there is room for
unfoldable pub list_lengths_fit : Day → ℕ → ℕ → Bool
list_lengths_fit day room size =
    eqb (length day.mins) day.counts.choices
    && eqb (length day.maxs) day.counts.choices
    && eqb (length day.optional) day.counts.choices
    && eqb (length day.rows) day.counts.rows
    && eqb size (room * day.counts.choices)

-- the refusals of a listing, lowest number first: 1, 2, 5 with the first bad row, 13
unfoldable pub judge_of : Day → ℕ → ℕ → Verdict
judge_of day room size =
    unless (counts_in_range day.counts Scheduling) 1
    (unless (list_lengths_fit day room size) 2
    (and_then (rows_judged day.counts Scheduling day.rows) (flags_judged day.optional)))
