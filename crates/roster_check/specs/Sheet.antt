-- What the roster check takes: a day without its optional flags, a plan and a roster.
use Rattle.std.specs.Prelude.{List, ℕ}
use Rattle.day_rows.specs.declared.check.Counts.{Counts}
use Rattle.roster_check.specs.declared.roster_check.RosterCounts.{RosterCounts}
use Rattle.roster_check.specs.declared.roster_check.Sheet as lent

-- a sheet: the counts; each choice's min and max; levels; preferences chooser by chooser; the search's rows
-- and the roster's, by their numbers; the plan; the roster's cells chooser by chooser
pub record Sheet : Type 0 where
  pub counts : RosterCounts
  pub mins : List ℕ
  pub maxs : List ℕ
  pub levels : List ℕ
  pub preferences : List ℕ
  pub rows : List ℕ
  pub assignment_rows : List ℕ
  pub plan : List ℕ
  pub roster : List ℕ

-- the sheet that a call's parameters make
abbrev pub sheet_of : RosterCounts
    → List ℕ → List ℕ → List ℕ → List ℕ → List ℕ → List ℕ → List ℕ → List ℕ → Sheet
sheet_of counts mins maxs levels preferences rows assignment_rows plan roster =
    record {
      counts = counts;
      mins = mins;
      maxs = maxs;
      levels = levels;
      preferences = preferences;
      rows = rows;
      assignment_rows = assignment_rows;
      plan = plan;
      roster = roster;
    }

-- the sheet that a call is lent
abbrev pub sheet_lent : lent.Sheet → Sheet
sheet_lent sheet =
    sheet_of sheet.counts sheet.mins.now sheet.maxs.now sheet.levels.now sheet.preferences.now
    sheet.rows.now sheet.assignment_rows.now sheet.plan.now sheet.roster.now

-- the counts that the row check takes: those of the search's list
abbrev pub row_counts : RosterCounts → Counts
row_counts counts =
    record {
      choices = counts.choices;
      slots = counts.slots;
      choosers = counts.choosers;
      rows = counts.rows;
    }
