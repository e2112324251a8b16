-- Whether the walk may start, and where it stands at last.
use Rattle.std.specs.Prelude.{Bool, true, false, ◌&&◌, cond, List, ℕ, ◌+◌, ◌*◌, ◌^◌, eqb, ltb, length}
use Rattle.day_rows.specs.Check.{counts_in_range}
use Rattle.day_rows.specs.declared.check.Takes.TheVariants.{Scheduling}
use Rattle.plan_check.specs.Day.{Day}
use Rattle.list_nodes.specs.steps.Alive.{Event}
use Rattle.list_nodes.specs.steps.Run.{Standing, standing, run, goes_on}

-- the walk may start: counts in range, every list as long as they say, numbers for the plans that these turns
-- can meet, and a page that isn't over
unfoldable pub ready_for : Day → ℕ → ℕ → ℕ → ℕ → ℕ → Bool
ready_for day first room turns met size =
    counts_in_range day.counts Scheduling
    && eqb (length day.mins) day.counts.choices
    && eqb (length day.maxs) day.counts.choices
    && eqb (length day.optional) day.counts.choices
    && eqb size (room * day.counts.choices)
    && ltb (met + turns) (2 ^ 64)
    && goes_on first room met

-- where a walk that may start only if it is ready stands at last; else it stands still
unfoldable pub walked_if : Bool → ℕ → ℕ → ℕ → ℕ → List ℕ → List Event → Standing
walked_if ready first room turns met buffer events =
    cond ready (run first room (standing true turns met buffer) events) (standing false turns met buffer)
