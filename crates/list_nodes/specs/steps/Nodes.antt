-- The nodes of a day against a budget.
use Rattle.std.specs.Prelude.{Bool, ◌&&◌, cond, ℕ, Option, None, Some, eqb, leb, length}
use Rattle.day_rows.specs.Check.{counts_in_range}
use Rattle.day_rows.specs.declared.check.Takes.TheVariants.{Scheduling}
use Rattle.plan_check.specs.Day.{Day}
use Rattle.list_nodes.specs.Placements.{nodes}

-- a day whose nodes are counted: its counts in their ranges, with a minimum and a flag for each choice
unfoldable pub countable : Day → Bool
countable day =
    counts_in_range day.counts Scheduling
    && eqb (length day.mins) day.counts.choices
    && eqb (length day.optional) day.counts.choices

-- how many nodes a day has, if they are within the budget
unfoldable pub nodes_within : Day → ℕ → Option ℕ
nodes_within day budget =
    cond (countable day)
    (cond (leb (nodes day) budget) (Some (nodes day)) None)
    None
