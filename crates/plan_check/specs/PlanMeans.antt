-- What a feasible plan is, in plain mathematics. The plan check says yes to these plans and to no others
-- (`Meaning.feasible-exactly`), and demand 3 is stated with them.
use Rattle.std.specs.Prelude.{◌≡◌, true, List, ℕ, ◌≤◌, ◌<◌, length, get_or}
use Rattle.day_rows.specs.Row.{row_of}
use Rattle.plan_check.specs.Day.{Day}
use Rattle.plan_check.specs.Plan.{slot_of, sum_in}
use Rattle.plan_check.specs.Rows.{keeps_row}

-- the place of one choice: it stands in one of the day's slots, or is omitted and optional
pub data Placed (slots : ℕ) (optional plan : List ℕ) (choice : ℕ) : Type 0 where
  scheduled : slot_of plan choice < slots → Placed slots optional plan choice
  left_out : slot_of plan choice ≡ 255 → get_or optional choice 0 ≡ 1 → Placed slots optional plan choice

-- a feasible plan: it omits only optional choices, in each slot the minimums sum to at most H and the
-- maximums to at least H, and it keeps every row (`Meaning` says for each kind what that is)
pub record Feasible (day : Day) (plan : List ℕ) : Type 0 where
  pub places : (choice : ℕ) → choice < length plan → Placed day.counts.slots day.optional plan choice
  pub minimums : (slot : ℕ) → slot < day.counts.slots → sum_in day.mins plan slot ≤ day.counts.choosers
  pub maximums : (slot : ℕ) → slot < day.counts.slots → day.counts.choosers ≤ sum_in day.maxs plan slot
  pub rows : (i : ℕ) → i < length day.rows → keeps_row plan (row_of (get_or day.rows i 0)) ≡ true
