-- A day as the plan check takes it.
use Rattle.std.specs.Prelude.{List, ℕ}
use Rattle.day_rows.specs.declared.check.Counts.{Counts}
use Rattle.plan_check.specs.declared.day.Day as lent

-- a day: its counts; 'Each choice has min and max .. and an optional flag'; rows of kinds 1 to 6 as numbers
pub record Day : Type 0 where
  pub counts : Counts
  pub mins : List ℕ
  pub maxs : List ℕ
  pub optional : List ℕ
  pub rows : List ℕ

-- the day that a call's parameters make
abbrev pub day_of : Counts → List ℕ → List ℕ → List ℕ → List ℕ → Day
day_of counts mins maxs optional rows =
    record { counts = counts; mins = mins; maxs = maxs; optional = optional; rows = rows }

-- the day that a call is lent
abbrev pub day_lent : lent.Day → Day
day_lent day = day_of day.counts day.mins.now day.maxs.now day.optional.now day.rows.now
