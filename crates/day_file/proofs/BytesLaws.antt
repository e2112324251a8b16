-- A good file is the file of its day, byte for byte.
use mathlib.Core.Path.{◌≡◌, sym, ◌∙◌, ap}
use mathlib.Core.List.{List, [], ◌∷◌, ◌++◌}
use Prim.Native.Nat.{ℕ, suc, ◌+◌, ◌*◌, ◌-◌, ◌/◌, ◌%◌, ◌≤◌, ◌<◌}
use native.Mathlib.Numerals.{add-one}
use native.Mathlib.Omega.{arith}
use lib.ListN.{length, get_or, take}
use lib.Seq.{drop-cons}
use Rattle.base_lists.specs.Flat.{list_below, join_below}
use Rattle.base_lists.specs.Pool.{window}
use Rattle.base_lists.proofs.Flat.{length-list, get_d_list, window-split, window-all, join_windows}
use Rattle.day_rows.specs.declared.row.Row.{Row}
use Rattle.day_rows.proofs.RowLaws.{Fits, row_of-number}
use Rattle.day_file.specs.FileDay.{day}
use Rattle.day_file.specs.File.{word, word_at, sign_bit_flipped, row_bytes, row_at, places_of, head_bytes, length_in, version_in, counts_in, choice_bytes, bytes_of, lists_in, day_in}
use Rattle.day_file.specs.declared.counts.FileCounts.{FileCounts}
use Rattle.day_file.proofs.ReadLaws.{Head}
use Rattle.day_file.proofs.FormatLaws.{Bytes, flipped_twice}

module _ (file : List ℕ) (bytes : Bytes file) where
  -- one byte, and two bytes as a number, are the window where they stand
  one_byte : (a : ℕ) → a < length file → (get_or file a 0 ∷ []) ≡ window a 1 file
  unfolding window
  one_byte a h = rw (drop-cons file a 0 h)

  two_bytes : (a : ℕ) → a + 1 < length file → word (word_at file a) ≡ window a 2 file
  unfolding window word word_at
  two_bytes a h =
      let high : (get_or file a 0 * 256 + get_or file (a + 1) 0) / 256 ≡ get_or file a 0 = omega (arith, bytes (a + 1)) in
      let low : (get_or file a 0 * 256 + get_or file (a + 1) 0) % 256 ≡ get_or file (a + 1) 0 = omega (arith, bytes (a + 1)) in
      rw (high, low, drop-cons file a 0 (omega arith))
      (rw (add-one a) (ap (λ (l : List ℕ). get_or file a 0 ∷ take 1 l) (sym (drop-cons file (suc a) 0 (omega arith)))))

  pub word-under : (a : ℕ) → word_at file a < 65536
  unfolding word_at
  word-under a = omega (arith, bytes a, bytes (a + 1))

  -- a choice's five bytes and a row's six are the window where they stand
  choice-bytes : (a : ℕ) → a + 4 < length file → word (word_at file a) ++ (word (word_at file (a + 2)) ++ (get_or file (a + 4) 0 ∷ [])) ≡ window a 5 file
  choice-bytes a h =
      let e : a + 4 ≡ a + 2 + 2 = omega arith in
      rw (two_bytes a (omega arith), two_bytes (a + 2) (omega arith), one_byte (a + 4) h, e)
      (sym (window-split a 2 3 file ∙ ap (λ (l : List ℕ). window a 2 file ++ l) (window-split (a + 2) 2 1 file)))

  flipped_under : (v : ℕ) → sign_bit_flipped v < 65536
  unfolding sign_bit_flipped
  flipped_under v = omega arith

  row-bytes : (a : ℕ) → a + 5 < length file → row_bytes (row_at file a) ≡ window a 6 file
  unfolding row_bytes row_at
  row-bytes a h =
      let row : Row = record { kind = get_or file a 0; left = get_or file (a + 1) 0; right = word_at file (a + 2); extra = sign_bit_flipped (word_at file (a + 4)) } in
      let fits : Fits row = record { left = omega (arith, bytes (a + 1)); right = word-under (a + 2); extra = flipped_under (word_at file (a + 4)) } in
      let one : a + 2 ≡ a + 1 + 1 = omega arith in
      let four : a + 4 ≡ a + 2 + 2 = omega arith in
      ap (λ (z : Row). z.kind ∷ z.left ∷ (word z.right ++ word (sign_bit_flipped z.extra))) (row_of-number row fits)
      ∙ rw (flipped_twice (word_at file (a + 4)) (word-under (a + 4)), two_bytes (a + 2) (omega arith), two_bytes (a + 4) (omega arith), four)
      (sym
      (window-split a 1 5 file
      ∙ rw (sym (one_byte a (omega arith)))
      (ap (λ (l : List ℕ). get_or file a 0 ∷ l)
      (window-split (a + 1) 1 4 file ∙ rw (sym (one_byte (a + 1) (omega arith)), sym one) (ap (λ (l : List ℕ). get_or file (a + 1) 0 ∷ l) (window-split (a + 2) 2 2 file))))))

  -- the eleven bytes of a head are the file's first window
  head_bytes_lem : 11 ≤ length file → version_in file ≡ 1 → length_in file ≡ (places_of 5 (counts_in file)).end - 4 → head_bytes 1 (counts_in file) ≡ window 0 11 file
  unfolding head_bytes length_in
  head_bytes_lem long v l =
      let high : ((places_of 5 (counts_in file)).end - 4) / 65536 ≡ word_at file 0 = omega (arith, word-under 2) in
      let low : ((places_of 5 (counts_in file)).end - 4) % 65536 ≡ word_at file 2 = omega (arith, word-under 2) in
      rw (high, low, two_bytes 0 (omega arith), two_bytes 2 (omega arith), two_bytes 9 (omega arith), sym v)
      (sym
      (window-split 0 2 9 file
      ∙ ap (λ (l : List ℕ). window 0 2 file ++ l)
      (window-split 2 2 7 file
      ∙ ap (λ (l : List ℕ). window 2 2 file ++ l)
      (window-split 4 1 6 file
      ∙ rw (sym (one_byte 4 (omega arith)))
      (ap (λ (l : List ℕ). get_or file 4 0 ∷ l)
      (window-split 5 1 5 file
      ∙ rw (sym (one_byte 5 (omega arith)))
      (ap (λ (l : List ℕ). get_or file 5 0 ∷ l)
      (window-split 6 1 4 file
      ∙ rw (sym (one_byte 6 (omega arith)))
      (ap (λ (l : List ℕ). get_or file 6 0 ∷ l)
      (window-split 7 1 3 file
      ∙ rw (sym (one_byte 7 (omega arith)))
      (ap (λ (l : List ℕ). get_or file 7 0 ∷ l)
      (window-split 8 1 2 file ∙ rw (sym (one_byte 8 (omega arith)))))))))))))))

  -- the parts of a file with these counts, which end where it does
  module _ (counts : FileCounts) (end : (places_of 5 counts).end ≡ length file) where
    choices-bytes : join_below counts.choices (choice_bytes (lists_in file counts).mins (lists_in file counts).maxs (lists_in file counts).optional) ≡ window 11 (5 * counts.choices) file
    unfolding lists_in choice_bytes
    choices-bytes =
        join_windows counts.choices 5 (choice_bytes (lists_in file counts).mins (lists_in file counts).maxs (lists_in file counts).optional) 11 file
        (λ i h.
        let two : 13 + 5 * i ≡ 11 + 5 * i + 2 = omega arith in
        let four : 15 + 5 * i ≡ 11 + 5 * i + 4 = omega arith in
        rw (
          get_d_list counts.choices (λ k. word_at file (11 + 5 * k)) i 0 h,
          get_d_list counts.choices (λ k. word_at file (13 + 5 * k)) i 0 h,
          get_d_list counts.choices (λ k. get_or file (15 + 5 * k) 0) i 0 h,
          two,
          four,
        )
        (choice-bytes (11 + 5 * i) (omega arith)))

    words_bytes : (n at : ℕ) → at + 2 * n ≤ length file → join_below (length (list_below n (λ i. word_at file (at + 2 * i)))) (λ i. word (get_or (list_below n (λ i. word_at file (at + 2 * i))) i 0)) ≡ window at (2 * n) file
    words_bytes n at w =
        rw (length-list n (λ i. word_at file (at + 2 * i)))
        (join_windows n 2 (λ i. word (get_or (list_below n (λ i. word_at file (at + 2 * i))) i 0)) at file
        (λ i h. rw (get_d_list n (λ i. word_at file (at + 2 * i)) i 0 h) (two_bytes (at + 2 * i) (omega arith))))

    rows-bytes : (n at : ℕ) → at + 6 * n ≤ length file → join_below (length (list_below n (λ i. row_at file (at + 6 * i)))) (λ i. row_bytes (get_or (list_below n (λ i. row_at file (at + 6 * i))) i 0)) ≡ window at (6 * n) file
    rows-bytes n at w =
        rw (length-list n (λ i. row_at file (at + 6 * i)))
        (join_windows n 6 (λ i. row_bytes (get_or (list_below n (λ i. row_at file (at + 6 * i))) i 0)) at file
        (λ i h. rw (get_d_list n (λ i. row_at file (at + 6 * i)) i 0 h) (row-bytes (at + 6 * i) (omega arith))))

    levels-bytes : join_below (length (lists_in file counts).levels) (λ i. word (get_or (lists_in file counts).levels i 0)) ≡ window (places_of 5 counts).levels (2 * counts.levels) file
    unfolding lists_in
    levels-bytes = words_bytes counts.levels (places_of 5 counts).levels (omega arith)

    preferences-bytes : join_below (length (lists_in file counts).preferences) (λ i. word (get_or (lists_in file counts).preferences i 0)) ≡ window (places_of 5 counts).preferences (2 * (counts.choosers * counts.choices)) file
    unfolding lists_in
    preferences-bytes = words_bytes (counts.choosers * counts.choices) (places_of 5 counts).preferences (omega arith)

    all-rows-bytes : join_below (length (lists_in file counts).rows) (λ i. row_bytes (get_or (lists_in file counts).rows i 0)) ≡ window (places_of 5 counts).rows (6 * counts.rows) file
    unfolding lists_in
    all-rows-bytes = rows-bytes counts.rows (places_of 5 counts).rows (omega arith)

    body_bytes : window 11 (5 * counts.choices) file
        ++ (window (places_of 5 counts).levels (2 * counts.levels) file
        ++ (window (places_of 5 counts).preferences (2 * (counts.choosers * counts.choices)) file ++ window (places_of 5 counts).rows (6 * counts.rows) file))
        ≡ window 11 (5 * counts.choices + (2 * counts.levels + (2 * (counts.choosers * counts.choices) + 6 * counts.rows))) file
    body_bytes =
        sym
        (window-split 11 (5 * counts.choices) (2 * counts.levels + (2 * (counts.choosers * counts.choices) + 6 * counts.rows)) file
        ∙ ap (λ (l : List ℕ). window 11 (5 * counts.choices) file ++ l)
        (window-split (places_of 5 counts).levels (2 * counts.levels) (2 * (counts.choosers * counts.choices) + 6 * counts.rows) file
        ∙ ap (λ (l : List ℕ). window (places_of 5 counts).levels (2 * counts.levels) file ++ l)
        (window-split (places_of 5 counts).preferences (2 * (counts.choosers * counts.choices)) (6 * counts.rows) file)))

    whole : head_bytes 1 counts ≡ window 0 11 file → bytes_of (day counts (lists_in file counts)) ≡ file
    unfolding bytes_of
    whole h =
        let size : 11 + (5 * counts.choices + (2 * counts.levels + (2 * (counts.choosers * counts.choices) + 6 * counts.rows))) ≡ length file = omega arith in
        rw (h, choices-bytes, levels-bytes, preferences-bytes, all-rows-bytes, body_bytes)
        (sym (window-split 0 11 (5 * counts.choices + (2 * counts.levels + (2 * (counts.choosers * counts.choices) + 6 * counts.rows))) file) ∙ window-all file _ (sym size))

-- what reads writes back as the same bytes
pub bytes_back : (file : List ℕ) → Bytes file → Head file → bytes_of (day_in file) ≡ file
bytes_back file bytes h =
    whole file bytes (counts_in file) h.end
    (head_bytes_lem file bytes h.long h.version (h.length-in ∙ ap (λ (n : ℕ). n - 4) (sym h.end)))
