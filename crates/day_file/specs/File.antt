-- 'Day file': the bytes of a day, and the day in the bytes. 'All big-endian.'
use Rattle.std.specs.Prelude.{List, [], ◌∷◌, ◌++◌, ℕ, ◌+◌, ◌*◌, ◌-◌, ◌/◌, ◌%◌, length, get_or}
use Rattle.base_lists.specs.Flat.{list_below, join_below}
use Rattle.day_rows.specs.Row.{row_of, row_number}
use Rattle.day_file.specs.FileDay.{Parts, parts, FileDay, day}
use Rattle.day_file.specs.declared.counts.FileCounts.{FileCounts}
use Rattle.day_file.specs.declared.counts.Places.{Places}

-- a number as its two bytes, and the number whose two bytes stand at a place of a file
unfoldable pub word : ℕ → List ℕ
word v = v / 256 ∷ v % 256 ∷ []

unfoldable pub word_at : List ℕ → ℕ → ℕ
word_at file at = get_or file at 0 * 256 + get_or file (at + 1) 0

-- a number of sixteen bits with its highest bit turned over: from two's complement to 32,768 higher, and the
-- same back
unfoldable pub sign_bit_flipped : ℕ → ℕ
sign_bit_flipped v = (v + 32768) % 65536

-- a row as its six bytes, and the row whose bytes stand at a place: 'rows as kind, left (1 each), right,
-- extra (2 each, extra in two's complement)'
unfoldable pub row_bytes : ℕ → List ℕ
row_bytes number =
    let row = row_of number in
    row.kind ∷ row.left ∷ (word row.right ++ word (sign_bit_flipped row.extra))

unfoldable pub row_at : List ℕ → ℕ → ℕ
row_at file at =
    row_number
    (record {
      kind = get_or file at 0;
      left = get_or file (at + 1) 0;
      right = word_at file (at + 2);
      extra = sign_bit_flipped (word_at file (at + 4));
    })

-- where levels, preferences and rows start and the file ends, for choices of `width` bytes each
abbrev pub places_of : ℕ → FileCounts → Places
places_of width counts =
    let levels = 11 + width * counts.choices in
    let preferences = levels + 2 * counts.levels in
    let rows = preferences + 2 * (counts.choosers * counts.choices) in
    record { levels = levels; preferences = preferences; rows = rows; end = rows + 6 * counts.rows }

-- the longest file, every count at its limit: 'over 26,827 bytes: 11', and '26,827 bytes for a file to be
-- written'
abbrev pub longest_file : ℕ
longest_file = 26827

-- the head of a file, and what a head says: 'Four bytes: length of the rest. Then version 1, C, S, H, L (a
-- byte each), row count (2 bytes).'
unfoldable pub head_bytes : ℕ → FileCounts → List ℕ
head_bytes version counts =
    let rest = (places_of 5 counts).end - 4 in
    word (rest / 65536)
    ++ (word (rest % 65536)
    ++ (version ∷ counts.choices ∷ counts.slots ∷ counts.choosers ∷ counts.levels ∷ word counts.rows))

unfoldable pub length_in : List ℕ → ℕ
length_in file = word_at file 0 * 65536 + word_at file 2

abbrev pub version_in : List ℕ → ℕ
version_in file = get_or file 4 0

abbrev pub counts_in : List ℕ → FileCounts
counts_in file =
    record {
      choices = get_or file 5 0;
      slots = get_or file 6 0;
      choosers = get_or file 7 0;
      levels = get_or file 8 0;
      rows = word_at file 9;
    }

-- the bytes of choice i: 'per choice min, max (2 each), optional (1)'
unfoldable pub choice_bytes : List ℕ → List ℕ → List ℕ → ℕ → List ℕ
choice_bytes mins maxs optional i = word (get_or mins i 0) ++ (word (get_or maxs i 0) ++ (get_or optional i 0 ∷ []))

-- the file of a day: 'Then per choice ..; levels (2 each); preferences chooser by chooser (2 each); rows ..'
unfoldable pub bytes_of : FileDay → List ℕ
bytes_of d =
    let lists = d.lists in
    head_bytes 1 d.counts
    ++ (join_below d.counts.choices (choice_bytes lists.mins lists.maxs lists.optional)
    ++ (join_below (length lists.levels) (λ i. word (get_or lists.levels i 0))
    ++ (join_below (length lists.preferences) (λ i. word (get_or lists.preferences i 0))
    ++ join_below (length lists.rows) (λ i. row_bytes (get_or lists.rows i 0)))))

-- the lists of a file with these counts
unfoldable pub lists_in : List ℕ → FileCounts → Parts
lists_in file counts =
    let places = places_of 5 counts in
    parts
    (list_below counts.choices (λ i. word_at file (11 + 5 * i)))
    (list_below counts.choices (λ i. word_at file (13 + 5 * i)))
    (list_below counts.choices (λ i. get_or file (15 + 5 * i) 0))
    (list_below counts.levels (λ i. word_at file (places.levels + 2 * i)))
    (list_below (counts.choosers * counts.choices) (λ i. word_at file (places.preferences + 2 * i)))
    (list_below counts.rows (λ i. row_at file (places.rows + 6 * i)))

-- the day in a file: the counts of its head, and its lists
abbrev pub day_in : List ℕ → FileDay
day_in file = day (counts_in file) (lists_in file (counts_in file))
