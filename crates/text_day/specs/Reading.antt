-- What reading a whole file comes to, before its day is reduced, and the pools that it is read into.
use Rattle.std.specs.Prelude.{List, ℕ, leb, length, replicate, Result, Ok, Err}
use Rattle.day_rows.specs.Told.{done, Told, unless, and_then}
use Rattle.day_rows.specs.declared.refusal.Refusal.{Refusal}
use Rattle.day_file.specs.FileDay.{FileDay, file_day_lent}
use Rattle.day_file.specs.File.{day_in, longest_file}
use Rattle.day_file.specs.Calls.{file_judged}
use Rattle.day_file.specs.declared.day.FileDay as lent
use Rattle.text_day.specs.declared.pools.Pools.{Pools}

-- the day of a file, or why the file is refused, 5 with its row: 'a file on standard input (over 26,827 bytes: 11)'
unfoldable pub reading_of : List ℕ → Told FileDay
reading_of file = unless (leb (length file) longest_file) 11 (and_then (file_judged file) (done (day_in file)))

-- a file's day as it is lent, by its lists
abbrev pub read_out : Result lent.FileDay Refusal → Result FileDay Refusal
read_out (Ok day) = Ok (file_day_lent day)
read_out (Err why) = Err why

-- pools that hold no day: 'lent at its full limit', with zeros
abbrev pub no_day : Pools
no_day =
    record {
      mins = replicate 64 0;
      maxs = replicate 64 0;
      optional = replicate 64 0;
      levels = replicate 64 0;
      preferences = replicate 12800 0;
      rows = replicate 128 0;
    }
