-- A roster's cells: the slots that a chooser's must have, and what each must name.
use Rattle.std.specs.Prelude.{Bool, not, List, ℕ, eqb, length, get_or}
use Rattle.base_lists.specs.All.{all_of}
use Rattle.base_lists.specs.Below.{all_below}
use Rattle.day_rows.specs.Told.{Verdict, good, unless}
use Rattle.plan_check.specs.Check.{cell_fits}
use Rattle.plan_check.specs.Plan.{slot_of, omitted}

-- 'The scheduled slots of a chooser's choices must differ, but needn't equal s': no two of a chooser's cells
-- name choices in one slot
unfoldable pub slots_apart : List ℕ → List ℕ → Bool
slots_apart plan cells =
    all_below (length cells) λ s.
    all_below s λ t. not (eqb (slot_of plan (get_or cells s 0)) (slot_of plan (get_or cells t 0)))

-- 10: 'a roster cell doesn't name a scheduled choice'; a number past the plan's end names none
unfoldable pub names_scheduled : List ℕ → ℕ → Bool
names_scheduled plan cell = not (omitted plan cell)

-- the refusals of cells: 9 for a plan's before 10 for a roster's
unfoldable pub cells_judged : ℕ → List ℕ → List ℕ → Verdict
cells_judged slots plan roster =
    unless (all_of (cell_fits slots) plan) 9 (unless (all_of (names_scheduled plan) roster) 10 good)
