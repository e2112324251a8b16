-- The lists of a file as columns: where a list's first entry stands, how far apart its entries are, how many.
use Rattle.std.specs.Prelude.{List, ℕ, ◌+◌, ◌*◌, ◌<◌, ◌≤◌, length, get_or}
use Rattle.base_lists.specs.Flat.{list_below}
use Rattle.day_file.specs.File.{word_at, row_at, places_of}
use Rattle.day_file.specs.declared.counts.FileCounts.{FileCounts}
use Rattle.day_file.specs.declared.counts.Column.{Column}
use Rattle.day_file.specs.declared.counts.Columns.{Columns}

abbrev pub column : ℕ → ℕ → ℕ → Column
column at step count = record { at = at; step = step; count = count }

-- the place of an entry
abbrev pub place : Column → ℕ → ℕ
place column k = column.at + column.step * k

-- each entry, of so many bytes, stands within the file
abbrev pub Stands : List ℕ → Column → ℕ → Type 0
Stands file column width = (k : ℕ) → k < column.count → place column k + width ≤ length file

-- the entries of a column: optional bytes, words or rows
abbrev pub flags_of : List ℕ → Column → List ℕ
flags_of file column = list_below column.count (λ k. get_or file (place column k) 0)

abbrev pub words_of : List ℕ → Column → List ℕ
words_of file column = list_below column.count (λ k. word_at file (place column k))

abbrev pub rows_of : List ℕ → Column → List ℕ
rows_of file column = list_below column.count (λ k. row_at file (place column k))

-- the columns of a file with these counts
abbrev pub columns_of : FileCounts → Columns
columns_of counts =
    let places = places_of 5 counts in
    record {
      mins = column 11 5 counts.choices;
      maxs = column 13 5 counts.choices;
      optional = column 15 5 counts.choices;
      levels = column places.levels 2 counts.levels;
      preferences = column places.preferences 2 (counts.choosers * counts.choices);
      rows = column places.rows 6 counts.rows;
    }
