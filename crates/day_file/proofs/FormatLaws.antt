-- A day and its file: each comes back from the other. The laws of windows and joined records hold for records
-- of any width.
use mathlib.Core.Path.{◌≡◌, refl, sym, ◌∙◌, ap}
use mathlib.Core.List.{List, [], ◌∷◌, ◌++◌, append-nil}
use Prim.Native.Nat.{ℕ, ◌+◌, ◌*◌, ◌-◌, ◌/◌, ◌%◌, ◌<◌}
use native.Mathlib.Nat.{add-zero}
use native.Mathlib.Omega.{arith}
use lib.ListN.{length, get_or, drop}
use lib.Seq.{get_or-take, get_or-drop}
use Rattle.base_lists.specs.Flat.{join_below}
use Rattle.base_lists.specs.Pool.{window}
use Rattle.base_lists.proofs.Flat.{list_ext, list_back, window_skip, window_join}
use Rattle.day_rows.specs.Row.{row_of, row_number}
use Rattle.day_rows.proofs.RowLaws.{number_of-row, row_fits}
use Rattle.day_file.specs.FileDay.{Parts, parts, FileDay, day}
use Rattle.day_file.specs.File.{word, word_at, sign_bit_flipped, row_bytes, row_at, places_of, head_bytes, length_in, version_in, counts_in, choice_bytes, bytes_of, lists_in, day_in}
use Rattle.day_file.specs.declared.counts.FileCounts.{FileCounts}
use Rattle.day_file.proofs.FileLaws.{Lengths, length-word, length-row, length-choice, length-head, length-choices, length_words}

-- every entry is a byte, as it is of any file that code holds
abbrev pub Bytes : List ℕ → Type 0
Bytes file = (i : ℕ) → get_or file i 0 < 256

-- reading in a window is reading in the list
pub byte_in : (l : List ℕ) (a w o : ℕ) → o < w → get_or (window a w l) o 0 ≡ get_or l (a + o) 0
unfolding window
byte_in l a w o h = get_or-take w (drop a l) o 0 h ∙ get_or-drop a l o 0

pub word_in : (l : List ℕ) (a w o : ℕ) → o + 1 < w → word_at (window a w l) o ≡ word_at l (a + o)
unfolding word_at
word_in l a w o h =
    let e : a + (o + 1) ≡ a + o + 1 = omega arith in
    rw (byte_in l a w o (omega arith), byte_in l a w (o + 1) h, e)

pub row_in : (l : List ℕ) (a : ℕ) → row_at (window a 6 l) 0 ≡ row_at l a
unfolding row_at row_number
row_in l a =
    rw (byte_in l a 6 0 (omega arith), byte_in l a 6 1 (omega arith), word_in l a 6 2 (omega arith), word_in l a 6 4 (omega arith), add-zero)

-- a number, a choice and a row that were put are read
pub flipped_twice : (v : ℕ) → v < 65536 → sign_bit_flipped (sign_bit_flipped v) ≡ v
unfolding sign_bit_flipped
flipped_twice v h = omega arith

word_read : (v : ℕ) (rest : List ℕ) → word_at (word v ++ rest) 0 ≡ v
unfolding word_at word
word_read v rest = omega arith

min-read : (mins maxs optional : List ℕ) (i : ℕ) → word_at (choice_bytes mins maxs optional i) 0 ≡ get_or mins i 0
unfolding choice_bytes word_at word
min-read mins maxs optional i = omega arith

max-read : (mins maxs optional : List ℕ) (i : ℕ) → word_at (choice_bytes mins maxs optional i) 2 ≡ get_or maxs i 0
unfolding choice_bytes word_at word
max-read mins maxs optional i = omega arith

optional-read : (mins maxs optional : List ℕ) (i : ℕ) → get_or (choice_bytes mins maxs optional i) 4 0 ≡ get_or optional i 0
unfolding choice_bytes word
optional-read mins maxs optional i = refl

columns_read : (kind left right extra : ℕ) → extra < 65536
    → row_at (kind ∷ left ∷ (word right ++ word (sign_bit_flipped extra))) 0 ≡ row_number (record { kind = kind; left = left; right = right; extra = extra })
unfolding row_at word_at word sign_bit_flipped row_number
columns_read kind left right extra h = omega arith

row-read-back : (number : ℕ) → row_at (row_bytes number) 0 ≡ number
unfolding row_bytes
row-read-back number =
    let row = row_of number in
    columns_read row.kind row.left row.right row.extra (row_fits number).extra ∙ number_of-row number

-- two days' lists with equal parts are equal
parts-equal : {a a' b b' c c' d d' e e' f f' : List ℕ} → a ≡ a' → b ≡ b' → c ≡ c' → d ≡ d' → e ≡ e' → f ≡ f' → parts a b c d e f ≡ parts a' b' c' d' e' f'
parts-equal p q r s t u = rw (p, q, r, s, t, u)

-- the lists of a day that are written read back
module _ (counts : FileCounts) (lists : Parts) (k : Lengths counts lists) where
  file : List ℕ
  file = bytes_of (day counts lists)

  choices : List ℕ
  choices = join_below counts.choices (choice_bytes lists.mins lists.maxs lists.optional)

  levels : List ℕ
  levels = join_below (length lists.levels) (λ i. word (get_or lists.levels i 0))

  preferences : List ℕ
  preferences = join_below (length lists.preferences) (λ i. word (get_or lists.preferences i 0))

  rows : List ℕ
  rows = join_below (length lists.rows) (λ i. row_bytes (get_or lists.rows i 0))

  past_head : (a w : ℕ) → window (11 + a) w file ≡ window a w (choices ++ (levels ++ (preferences ++ rows)))
  unfolding file choices levels preferences rows bytes_of
  past_head a w = window_skip (head_bytes 1 counts) (choices ++ (levels ++ (preferences ++ rows))) 11 a w (length-head 1 counts)

  past-choices : (a w : ℕ) → window (11 + 5 * counts.choices + a) w file ≡ window a w (levels ++ (preferences ++ rows))
  unfolding choices
  past-choices a w =
      let e : 11 + 5 * counts.choices + a ≡ 11 + (5 * counts.choices + a) = omega arith in
      rw e
      (past_head (5 * counts.choices + a) w
      ∙ window_skip choices (levels ++ (preferences ++ rows)) (5 * counts.choices) a w (length-choices lists.mins lists.maxs lists.optional counts.choices))

  past-levels : (a w : ℕ) → window ((places_of 5 counts).preferences + a) w file ≡ window a w (preferences ++ rows)
  unfolding levels
  past-levels a w =
      let e : (places_of 5 counts).preferences + a ≡ 11 + 5 * counts.choices + (2 * counts.levels + a) = omega arith in
      rw e
      (past-choices (2 * counts.levels + a) w
      ∙ window_skip levels (preferences ++ rows) (2 * counts.levels) a w (length_words lists.levels (length lists.levels) ∙ ap (λ (n : ℕ). 2 * n) k.levels-long))

  past-preferences : (a w : ℕ) → window ((places_of 5 counts).rows + a) w file ≡ window a w rows
  unfolding preferences
  past-preferences a w =
      let e : (places_of 5 counts).rows + a ≡ (places_of 5 counts).preferences + (2 * (counts.choosers * counts.choices) + a) = omega arith in
      rw e
      (past-levels (2 * (counts.choosers * counts.choices) + a) w
      ∙ window_skip preferences rows (2 * (counts.choosers * counts.choices)) a w
      (length_words lists.preferences (length lists.preferences) ∙ ap (λ (n : ℕ). 2 * n) k.preferences-long))

  choice-stands : (i : ℕ) → i < counts.choices → window (11 + 5 * i) 5 file ≡ choice_bytes lists.mins lists.maxs lists.optional i
  unfolding choices
  choice-stands i h =
      past_head (5 * i) 5
      ∙ window_join counts.choices 5 (choice_bytes lists.mins lists.maxs lists.optional) (levels ++ (preferences ++ rows))
      (λ j m. length-choice lists.mins lists.maxs lists.optional j) i h

  level-stands : (i : ℕ) → i < counts.levels → window ((places_of 5 counts).levels + 2 * i) 2 file ≡ word (get_or lists.levels i 0)
  unfolding levels
  level-stands i h =
      past-choices (2 * i) 2
      ∙ window_join (length lists.levels) 2 (λ i. word (get_or lists.levels i 0)) (preferences ++ rows) (λ j m. length-word (get_or lists.levels j 0)) i (rw k.levels-long h)

  preference_stands : (i : ℕ) → i < counts.choosers * counts.choices → window ((places_of 5 counts).preferences + 2 * i) 2 file ≡ word (get_or lists.preferences i 0)
  unfolding preferences
  preference_stands i h =
      past-levels (2 * i) 2
      ∙ window_join (length lists.preferences) 2 (λ i. word (get_or lists.preferences i 0)) rows (λ j m. length-word (get_or lists.preferences j 0)) i (rw k.preferences-long h)

  row-stands : (i : ℕ) → i < counts.rows → window ((places_of 5 counts).rows + 6 * i) 6 file ≡ row_bytes (get_or lists.rows i 0)
  unfolding rows
  row-stands i h =
      past-preferences (6 * i) 6
      ∙ ap (window (6 * i) 6) (sym (append-nil rows))
      ∙ window_join (length lists.rows) 6 (λ i. row_bytes (get_or lists.rows i 0)) [] (λ j m. length-row (get_or lists.rows j 0)) i (rw k.rows_long h)

  word_stands : (a v : ℕ) → window a 2 file ≡ word v → word_at file a ≡ v
  unfolding word_at word
  word_stands a v e =
      let r : word_at (window a 2 file) 0 ≡ word_at file (a + 0) = word_in file a 2 0 (omega arith) in
      ap (word_at file) (sym (add-zero a)) ∙ sym r ∙ ap (λ (l : List ℕ). word_at l 0) e ∙ word_read v []

  mins-back : (i : ℕ) → i < counts.choices → word_at file (11 + 5 * i) ≡ get_or lists.mins i 0
  mins-back i h =
      ap (word_at file) (sym (add-zero (11 + 5 * i)))
      ∙ sym (word_in file (11 + 5 * i) 5 0 (omega arith))
      ∙ ap (λ (l : List ℕ). word_at l 0) (choice-stands i h)
      ∙ min-read lists.mins lists.maxs lists.optional i

  maxs-back : (i : ℕ) → i < counts.choices → word_at file (13 + 5 * i) ≡ get_or lists.maxs i 0
  maxs-back i h =
      let e : 13 + 5 * i ≡ 11 + 5 * i + 2 = omega arith in
      ap (word_at file) e
      ∙ sym (word_in file (11 + 5 * i) 5 2 (omega arith))
      ∙ ap (λ (l : List ℕ). word_at l 2) (choice-stands i h)
      ∙ max-read lists.mins lists.maxs lists.optional i

  optional-back : (i : ℕ) → i < counts.choices → get_or file (15 + 5 * i) 0 ≡ get_or lists.optional i 0
  optional-back i h =
      let e : 15 + 5 * i ≡ 11 + 5 * i + 4 = omega arith in
      ap (λ (n : ℕ). get_or file n 0) e
      ∙ sym (byte_in file (11 + 5 * i) 5 4 (omega arith))
      ∙ ap (λ (l : List ℕ). get_or l 4 0) (choice-stands i h)
      ∙ optional-read lists.mins lists.maxs lists.optional i

  rows_back : (i : ℕ) → i < counts.rows → row_at file ((places_of 5 counts).rows + 6 * i) ≡ get_or lists.rows i 0
  rows_back i h =
      sym (row_in file ((places_of 5 counts).rows + 6 * i))
      ∙ ap (λ (l : List ℕ). row_at l 0) (row-stands i h)
      ∙ row-read-back (get_or lists.rows i 0)

  pub lists_back : lists_in (bytes_of (day counts lists)) counts ≡ lists
  unfolding lists_in file
  lists_back =
      parts-equal
      (list_ext counts.choices (λ i. word_at file (11 + 5 * i)) (λ i. get_or lists.mins i 0) mins-back ∙ list_back lists.mins counts.choices 0 k.mins-long)
      (list_ext counts.choices (λ i. word_at file (13 + 5 * i)) (λ i. get_or lists.maxs i 0) maxs-back ∙ list_back lists.maxs counts.choices 0 k.maxs-long)
      (list_ext counts.choices (λ i. get_or file (15 + 5 * i) 0) (λ i. get_or lists.optional i 0) optional-back ∙ list_back lists.optional counts.choices 0 k.optional-long)
      (list_ext counts.levels (λ i. word_at file ((places_of 5 counts).levels + 2 * i)) (λ i. get_or lists.levels i 0) (λ i h. word_stands ((places_of 5 counts).levels + 2 * i) (get_or lists.levels i 0) (level-stands i h))
      ∙ list_back lists.levels counts.levels 0 k.levels-long)
      (list_ext (counts.choosers * counts.choices) (λ i. word_at file ((places_of 5 counts).preferences + 2 * i)) (λ i. get_or lists.preferences i 0)
      (λ i h. word_stands ((places_of 5 counts).preferences + 2 * i) (get_or lists.preferences i 0) (preference_stands i h))
      ∙ list_back lists.preferences (counts.choosers * counts.choices) 0 k.preferences-long)
      (list_ext counts.rows (λ i. row_at file ((places_of 5 counts).rows + 6 * i)) (λ i. get_or lists.rows i 0) rows_back ∙ list_back lists.rows counts.rows 0 k.rows_long)

-- the head reads back, whatever follows it
pub counts-back : (counts : FileCounts) (lists : Parts) → counts_in (bytes_of (day counts lists)) ≡ counts
unfolding bytes_of head_bytes word word_at
counts-back counts lists =
    let e : counts.rows / 256 * 256 + counts.rows % 256 ≡ counts.rows = omega arith in
    ap (λ (n : ℕ). record { choices = counts.choices; slots = counts.slots; choosers = counts.choosers; levels = counts.levels; rows = n }) e

pub version-back : (counts : FileCounts) (lists : Parts) → version_in (bytes_of (day counts lists)) ≡ 1
unfolding bytes_of head_bytes word
version-back counts lists = refl

pub length_back : (counts : FileCounts) (lists : Parts) → length_in (bytes_of (day counts lists)) ≡ (places_of 5 counts).end - 4
unfolding bytes_of head_bytes word word_at length_in
length_back counts lists = omega arith

pub day-back : (d : FileDay) → Lengths d.counts d.lists → day_in (bytes_of d) ≡ d
day-back d k =
    ap (λ (c : FileCounts). day c (lists_in (bytes_of d) c)) (counts-back d.counts d.lists)
    ∙ ap (day d.counts) (lists_back d.counts d.lists k)
