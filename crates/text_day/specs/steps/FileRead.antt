-- What reading a whole file answers.
use Rattle.std.specs.Prelude.{◌≡◌, List, ℕ, ◌≤◌, length, Result, Ok, Err}
use Rattle.day_rows.specs.Refusal.{number_of}
use Rattle.day_rows.specs.Told.{good}
use Rattle.day_rows.specs.declared.refusal.Refusal.{Refusal}
use Rattle.day_file.specs.FileDay.{FileDay, file_day_lent}
use Rattle.day_file.specs.File.{day_in, longest_file}
use Rattle.day_file.specs.Calls.{file_judged}
use Rattle.day_file.specs.declared.day.FileDay as lent
use Rattle.text_day.specs.Prepared.{prepared_of}
use Rattle.text_day.specs.Prepared as prepared

-- a day that is read is the file's, which is no longer than a file may be and is judged good
pub record DayRead (file : List ℕ) (day : FileDay) : Type 0 where
  pub short : length file ≤ longest_file
  pub is-good : file_judged file ≡ good
  pub is-files : day ≡ day_in file

-- the file's day, or the refusal that the file comes to
abbrev pub ReadsFile : List ℕ → Result lent.FileDay Refusal → Type 0
ReadsFile file (Ok day) = DayRead file (file_day_lent day)
ReadsFile file (Err why) = prepared.refused (number_of why) ≡ prepared_of file
