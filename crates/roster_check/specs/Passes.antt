-- Module 6's roster check: slots, seats and rows; and the highest preference met.
use Rattle.std.specs.Prelude.{Bool, ◌&&◌, ℕ}
use Rattle.base_lists.specs.Below.{all_below}
use Rattle.plan_check.specs.Rows.{keeps_rows}
use Rattle.roster_rows.specs.Cells.{cells_of}
use Rattle.roster_rows.specs.Roster.{Roster, roster_of}
use Rattle.roster_rows.specs.Rows.{keeps_assignment_rows}
use Rattle.roster_rows.specs.Seats.{slots_apart}
use Rattle.roster_check.specs.Roster.{seats_fit, highest_met}
use Rattle.roster_check.specs.Sheet.{Sheet}

-- the roster that a sheet's assignment rows are asked of
abbrev pub roster : Sheet → Roster
roster sheet =
    roster_of sheet.counts.choices sheet.counts.slots sheet.counts.choosers sheet.plan sheet.roster

-- the roster passes: each chooser's slots, each choice's seats, and the rows of both lists; 'Rows 1 to 6 as
-- in module 3', by the same definition
unfoldable pub passes : Sheet → Bool
passes sheet =
    all_below sheet.counts.choosers
    (λ chooser. slots_apart sheet.plan (cells_of sheet.counts.slots sheet.roster chooser))
    && all_below sheet.counts.choices (seats_fit sheet.mins sheet.maxs sheet.plan sheet.roster)
    && keeps_rows sheet.plan sheet.rows
    && keeps_assignment_rows (roster sheet) sheet.assignment_rows

-- 'Also, passed or not, the highest preference met'
unfoldable pub highest : Sheet → ℕ
highest sheet =
    highest_met sheet.counts.choices sheet.counts.slots sheet.counts.choosers
    sheet.preferences sheet.roster
