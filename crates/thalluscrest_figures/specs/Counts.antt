-- The counts of a roster in another language: C, S and H as numbers; a list of levels and two lists of rows
-- carry their own.
use Rattle.std.specs.Prelude.{List, ℕ, length}
use Rattle.roster_check.specs.declared.roster_check.RosterCounts.{RosterCounts}

-- the counts of a roster: C, S, H, and how long the lists are
abbrev pub roster_counts_of : ℕ → ℕ → ℕ → List ℕ → List ℕ → List ℕ → RosterCounts
roster_counts_of choices slots choosers levels rows assignment_rows =
    record {
      choices = choices;
      slots = slots;
      choosers = choosers;
      levels = length levels;
      rows = length rows;
      assignment_rows = length assignment_rows;
    }
