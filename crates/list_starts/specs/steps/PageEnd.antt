-- What the end of the walk tells of a page.
use Rattle.std.specs.Prelude.{Bool, cond, ℕ, ◌-◌, min}
use Rattle.list_nodes.specs.Page.{PageTold, ended_told, goes_on_told, turns_told}
use Rattle.list_nodes.specs.steps.Run.{goes_on}

-- what the walk's end tells: whether it went on to the list's end, and the plans met
unfoldable pub told_of : ℕ → ℕ → Bool → ℕ → PageTold
told_of first room going met =
    cond going (ended_told (min room (met - first)) met)
    (cond (goes_on first room met) (turns_told (min room (met - first)) met)
    (goes_on_told (min room (met - first)) met))
