-- What writing a day file answers, and what it leaves in the pool.
use Rattle.std.specs.Prelude.{List, ℕ, eqb, length}
use Rattle.base_lists.specs.All.{all_at_most}
use Rattle.base_lists.specs.Pool.{pad}
use Rattle.day_rows.specs.Told.{done, Verdict, good, unless, and_then, Outcome, outcome, judged}
use Rattle.day_rows.specs.Levels.{levels_rise, last_level}
use Rattle.day_file.specs.FileDay.{FileDay, file_counts_in_range, file_lengths_fit, day_rows_judged}
use Rattle.day_file.specs.File.{bytes_of, longest_file}

-- a day's lists judged: 3, 4, 5, 13
unfoldable pub lists_judged : FileDay → Verdict
lists_judged d =
    unless (levels_rise d.lists.levels) 3
    (unless (all_at_most (last_level d.lists.levels) d.lists.preferences) 4
    (and_then (day_rows_judged d) (unless (all_at_most 1 d.lists.optional) 13 good)))

-- a day judged, with a pool of `room` bytes: 1, 2, 3, 4, 5, 13, 'Lowest number first among those a call can
-- meet'
unfoldable pub day_judged : FileDay → ℕ → Verdict
day_judged d room =
    unless (file_counts_in_range d.counts) 1
    (unless (file_lengths_fit d.counts d.lists) 2
    (unless (eqb room longest_file) 2 (lists_judged d)))

-- what writing leaves: how many bytes the file takes, the pool zero past them; or a number and the pool
-- untouched
unfoldable pub write_of : FileDay → List ℕ → Outcome ℕ (List ℕ)
write_of d pool =
    judged (day_judged d (length pool)) pool
    (outcome (done (length (bytes_of d))) (pad longest_file (bytes_of d)))
