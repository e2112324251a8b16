-- What the functions that make a text hand on to each other.
use Rattle.std.specs.Prelude.{◌≡◌, true, List, ℕ, ◌*◌, ◌≤◌, length}
use Rattle.base_lists.specs.All.{all_at_most}
use Rattle.day_rows.specs.Check.{counts_in_range, rows_judged}
use Rattle.day_rows.specs.declared.check.Counts.{Counts}
use Rattle.day_rows.specs.declared.check.Takes.TheVariants as takes
use Rattle.day_rows.specs.Told.{good}
use Rattle.day_rows.specs.Levels.{levels_rise, last_level}
use Rattle.day_file.specs.declared.counts.FileCounts.{FileCounts}

-- what a file that is read has made sure of: its counts, columns and rows
pub record FileGiven (counts : Counts) (mins maxs optional rows : List ℕ) : Type 0 where
  pub in_range : counts_in_range counts takes.Given ≡ true
  pub mins-fit : length mins ≡ counts.choices
  pub maxs-fit : length maxs ≡ counts.choices
  pub optional-fits : length optional ≡ counts.choices
  pub rows_fit : length rows ≡ counts.rows
  pub rows-good : rows_judged counts takes.Given rows ≡ good
  pub flags-fit : all_at_most 1 optional ≡ true

-- what a file that is read has made sure of: its levels and preferences
pub record GivenLevels (counts : FileCounts) (levels preferences : List ℕ) : Type 0 where
  pub some : 1 ≤ counts.levels
  pub few : counts.levels ≤ 64
  pub levels-fit : length levels ≡ counts.levels
  pub preferences-fit : length preferences ≡ counts.choosers * counts.choices
  pub rise : levels_rise levels ≡ true
  pub at_most : all_at_most (last_level levels) preferences ≡ true
