-- The plan check as a call: its refusals, lowest number first, and its answer.
use Rattle.std.specs.Prelude.{Bool, ◌&&◌, ◌||◌, List, ℕ, eqb, ltb, length}
use Rattle.base_lists.specs.All.{all_of, all_at_most}
use Rattle.day_rows.specs.Check.{counts_in_range, rows_judged}
use Rattle.day_rows.specs.declared.check.Takes.TheVariants.{Scheduling}
use Rattle.day_rows.specs.Told.{Told, done, Verdict, good, unless, and_then}
use Rattle.plan_check.specs.Day.{Day}
use Rattle.plan_check.specs.Feasible.{lengths_fit, feasible}

-- 9: 'a plan cell is neither < S nor 255'
unfoldable pub cell_fits : ℕ → ℕ → Bool
cell_fits slots cell = eqb cell 255 || ltb cell slots

-- 13: 'an optional byte isn't 0 or 1'
unfoldable pub flags_judged : List ℕ → Verdict
flags_judged optional = unless (all_at_most 1 optional) 13 good

-- the refusals of cells: 9 for a plan's before 13 for an optional byte
unfoldable pub cells_judged : ℕ → List ℕ → List ℕ → Verdict
cells_judged slots optional plan = unless (all_of (cell_fits slots) plan) 9 (flags_judged optional)

-- the refusals that come before those of cells: 1, 2, 5 with the first bad row
unfoldable pub before_cells : Day → List ℕ → Verdict
before_cells day plan =
    unless (counts_in_range day.counts Scheduling) 1
    (unless (lengths_fit day.counts.choices day.mins day.maxs day.optional plan
    && eqb (length day.rows) day.counts.rows) 2
    (rows_judged day.counts Scheduling day.rows))

-- the plan check's refusals, lowest number first: 1, 2, 5, 9, 13
unfoldable pub plan_judged : Day → List ℕ → Verdict
plan_judged day plan = and_then (before_cells day plan) (cells_judged day.counts.slots day.optional plan)

-- the plan check as a call: its refusals, and else whether the plan is feasible
unfoldable pub plan_check_of : Day → List ℕ → Told Bool
plan_check_of day plan = and_then (plan_judged day plan) (done (feasible day plan))
