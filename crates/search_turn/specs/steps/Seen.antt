-- What stands at a depth, by the decisions as the code has them, and the plan written of them.
use Rattle.std.specs.Prelude.{Bool, cond, List, ℕ, ltb, leb, length, take}
use Rattle.plan_check.specs.Day.{Day}
use Rattle.plan_check.specs.Feasible.{is_feasible}
use Rattle.search_rules.specs.Walk.{Sight, goal, over, on}
use Rattle.search_rules.specs.Pass.{sight_full, sight_as_the_rust}
use Rattle.search_turn.specs.declared.sight.Sight.{Sight as Seen}
use Rattle.search_turn.specs.declared.sight.Sight.TheVariants as seen

-- what the code's answer tells
abbrev pub sight_tells : Seen → Sight
sight_tells seen.Goal = goal
sight_tells seen.Over = over
sight_tells seen.On = on

-- what stands at the depth; what has no day's shape is no plan
unfoldable pub sight_from : Bool → Day → List ℕ → ℕ → Sight
sight_from full day decisions depth =
    cond (ltb depth day.counts.choices) on
    (let passes = is_feasible day (take day.counts.choices decisions) in
    cond full (sight_full day passes) (sight_as_the_rust day passes))

-- the plan at exit: the decisions of its choices, where there are as many
unfoldable pub plan_left : List ℕ → List ℕ → List ℕ
plan_left decisions plan = cond (leb (length plan) (length decisions)) (take (length plan) decisions) plan
