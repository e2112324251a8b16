-- What reading a day file answers, and what it leaves in the pools.
use Rattle.std.specs.Prelude.{List, ℕ, ◌-◌, eqb, leb, length}
use Rattle.base_lists.specs.All.{all_at_most}
use Rattle.day_rows.specs.Told.{done, Verdict, good, unless, and_then, Outcome, outcome, judged}
use Rattle.day_rows.specs.Levels.{levels_rise, last_level}
use Rattle.day_file.specs.FileDay.{Parts, FileDay, file_counts_in_range, day_rows_judged, pools_full, padded}
use Rattle.day_file.specs.File.{places_of, length_in, version_in, counts_in, lists_in, day_in}
use Rattle.day_file.specs.declared.counts.FileCounts.{FileCounts}

-- a file's head judged: 'a file goes 11, 12, 1, 11 for the counted body'
unfoldable pub head_judged : List ℕ → Verdict
head_judged file =
    unless (leb 11 (length file)) 11
    (unless (eqb (length_in file) (length file - 4)) 11
    (unless (eqb (version_in file) 1) 12
    (unless (file_counts_in_range (counts_in file)) 1
    (unless (eqb (places_of 5 (counts_in file)).end (length file)) 11 good))))

-- a file's body judged, by the day in it: '13, 3, 4, 5'
unfoldable pub body_judged : FileDay → Verdict
body_judged d =
    unless (all_at_most 1 d.lists.optional) 13
    (unless (levels_rise d.lists.levels) 3
    (unless (all_at_most (last_level d.lists.levels) d.lists.preferences) 4 (day_rows_judged d)))

unfoldable pub file_judged : List ℕ → Verdict
file_judged file = and_then (head_judged file) (body_judged (day_in file))

-- what reading leaves: the day, each pool zero past its list; or a number and every pool untouched. A pool of
-- the wrong length is the caller's fault and comes before any fault of the file
unfoldable pub read_of : List ℕ → Parts → Outcome FileCounts Parts
read_of file pools =
    judged (unless (pools_full pools) 2 (file_judged file)) pools
    (outcome (done (counts_in file)) (padded (lists_in file (counts_in file))))
