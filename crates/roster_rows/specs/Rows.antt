-- What the rows of kinds 10 to 13 ask of a roster: module 6's sentences.
use Rattle.std.specs.Prelude.{Bool, true, false, ◌&&◌, ◌||◌, not, cond, List, [], ◌∷◌, ℕ, ◌*◌, eqb, leb, length, replicate}
use Rattle.base_lists.specs.All.{all_of}
use Rattle.base_lists.specs.Flat.{join_below}
use Rattle.base_lists.specs.Group.{times_in}
use Rattle.base_lists.specs.Keep.{any_of}
use Rattle.day_rows.specs.Row.{row_of}
use Rattle.day_rows.specs.declared.row.Row.{Row}
use Rattle.plan_check.specs.Plan.{omitted}
use Rattle.roster_rows.specs.Cells.{cells_of}
use Rattle.roster_rows.specs.Roster.{Roster}

-- the sorted list in which each number below the bound stands as often as the function says
unfoldable pub sorted_by : ℕ → (ℕ → ℕ) → List ℕ
sorted_by n times = join_below n λ k. replicate (times k) k

-- two lists are equal
unfoldable pub equal_lists : List ℕ → List ℕ → Bool
equal_lists [] [] = true
equal_lists [] (y ∷ m) = false
equal_lists (x ∷ l) [] = false
equal_lists (x ∷ l) (y ∷ m) = eqb x y && equal_lists l m

-- a choice's list of choosers, 'repeats counted': each stands once for each of its cells that name the choice
unfoldable pub choosers_in : Roster → ℕ → List ℕ
choosers_in roster choice =
    sorted_by roster.choosers λ chooser. times_in choice (cells_of roster.slots roster.cells chooser)

-- a chooser's 'sorted' list of choices: each stands once for each of the cells that name it
unfoldable pub choices_of : Roster → ℕ → List ℕ
choices_of roster chooser =
    sorted_by roster.choices λ choice. times_in choice (cells_of roster.slots roster.cells chooser)

-- 'chooser there': a cell of the chooser names the choice
unfoldable pub is_there : Roster → ℕ → ℕ → Bool
is_there roster chooser choice = any_of (eqb choice) (cells_of roster.slots roster.cells chooser)

-- what a row asks of a roster, by its kind; a row of another kind is kept by no roster
unfoldable pub keeps_assignment_row : Roster → Row → Bool
keeps_assignment_row roster row =
    -- '10, if both are scheduled: equal lists of choosers, repeats counted'
    cond (eqb row.kind 10)
    (omitted roster.plan row.left
    || omitted roster.plan row.right
    || equal_lists (choosers_in roster row.left) (choosers_in roster row.right))
    -- '11: omitted, or chooser there'
    (cond (eqb row.kind 11) (omitted roster.plan row.right || is_there roster row.left row.right)
    -- '12: chooser not there'
    (cond (eqb row.kind 12) (not (is_there roster row.left row.right))
    -- '13: equal sorted lists of choices'
    (cond (eqb row.kind 13)
    (equal_lists (choices_of roster row.left) (choices_of roster row.right))
    false)))

-- a roster keeps every row of its list
unfoldable pub keeps_assignment_rows : Roster → List ℕ → Bool
keeps_assignment_rows roster rows = all_of (λ number. keeps_assignment_row roster (row_of number)) rows

-- the answer of `keeps_assignment_rows` on any input: what has no roster's shape (at most 64 choices, 24
-- slots and 200 choosers, S cells for each chooser) keeps nothing
unfoldable pub roster_keeps : Roster → List ℕ → Bool
roster_keeps roster rows =
    leb roster.choices 64
    && leb roster.slots 24
    && leb roster.choosers 200
    && eqb (length roster.cells) (roster.choosers * roster.slots)
    && keeps_assignment_rows roster rows
