-- The bytes of a day: how many they are, part by part.
use mathlib.Core.Path.{◌≡◌, refl}
use mathlib.Core.Bool.{true, ◌&&◌}
use mathlib.Core.List.{List}
use Prim.Native.Nat.{ℕ, ◌*◌, ◌≤◌}
use native.Mathlib.Omega.{arith}
use borrow.Author.Tests.{eqb-true}
use lib.Dec.{eqb}
use lib.ListN.{length, get_or, length-append}
use Rattle.base_lists.specs.Flat.{join_below}
use Rattle.base_lists.proofs.Below.{and_left, and_right}
use Rattle.base_lists.proofs.Flat.{length_join}
use Rattle.day_file.specs.FileDay.{Parts, day, file_lengths_fit}
use Rattle.day_file.specs.File.{word, row_bytes, head_bytes, choice_bytes, bytes_of, places_of, longest_file}
use Rattle.day_file.specs.declared.counts.FileCounts.{FileCounts}
use Rattle.day_file.proofs.CountLaws.{InRange}

-- lists as long as their counts give
pub record Lengths (counts : FileCounts) (lists : Parts) : Type 0 where
  pub mins-long : length lists.mins ≡ counts.choices
  pub maxs-long : length lists.maxs ≡ counts.choices
  pub optional-long : length lists.optional ≡ counts.choices
  pub levels-long : length lists.levels ≡ counts.levels
  pub preferences-long : length lists.preferences ≡ counts.choosers * counts.choices
  pub rows_long : length lists.rows ≡ counts.rows

pub lengths : (counts : FileCounts) (lists : Parts) → file_lengths_fit counts lists ≡ true → Lengths counts lists
unfolding file_lengths_fit
lengths counts lists h =
    let a = eqb (length lists.mins) counts.choices in
    let b = a && eqb (length lists.maxs) counts.choices in
    let c = b && eqb (length lists.optional) counts.choices in
    let d = c && eqb (length lists.levels) counts.levels in
    let e = d && eqb (length lists.preferences) (counts.choosers * counts.choices) in
    let he = and_left e _ h in
    let hd = and_left d _ he in
    let hc = and_left c _ hd in
    let hb = and_left b _ hc in
    record {
      mins-long = eqb-true _ _ (and_left a _ hb);
      maxs-long = eqb-true _ _ (and_right a _ hb);
      optional-long = eqb-true _ _ (and_right b _ hc);
      levels-long = eqb-true _ _ (and_right c _ hd);
      preferences-long = eqb-true _ _ (and_right d _ he);
      rows_long = eqb-true _ _ (and_right e _ h);
    }

-- how many bytes a number, a choice, a row and the head take
pub length-word : (v : ℕ) → length (word v) ≡ 2
unfolding word
length-word v = refl

pub length-row : (number : ℕ) → length (row_bytes number) ≡ 6
unfolding row_bytes word
length-row number = refl

pub length-choice : (mins maxs optional : List ℕ) (i : ℕ) → length (choice_bytes mins maxs optional i) ≡ 5
unfolding choice_bytes word
length-choice mins maxs optional i = refl

pub length-head : (version : ℕ) (counts : FileCounts) → length (head_bytes version counts) ≡ 11
unfolding head_bytes word
length-head version counts = refl

-- how many bytes each part of a file takes
pub length_words : (words : List ℕ) (n : ℕ) → length (join_below n (λ i. word (get_or words i 0))) ≡ 2 * n
length_words words n = length_join n 2 (λ i. word (get_or words i 0)) (λ i h. length-word (get_or words i 0))

pub length-rows : (rows : List ℕ) (n : ℕ) → length (join_below n (λ i. row_bytes (get_or rows i 0))) ≡ 6 * n
length-rows rows n = length_join n 6 (λ i. row_bytes (get_or rows i 0)) (λ i h. length-row (get_or rows i 0))

pub length-choices : (mins maxs optional : List ℕ) (n : ℕ) → length (join_below n (choice_bytes mins maxs optional)) ≡ 5 * n
length-choices mins maxs optional n = length_join n 5 (choice_bytes mins maxs optional) (λ i h. length-choice mins maxs optional i)

-- the bytes of the whole file are those that its counts give
pub length-bytes : (counts : FileCounts) (lists : Parts) → Lengths counts lists → length (bytes_of (day counts lists)) ≡ (places_of 5 counts).end
unfolding bytes_of
length-bytes counts lists l =
    simp
    (length-append, length-head 1 counts, length-choices, length_words, length-rows, l.levels-long, l.preferences-long, l.rows_long)
    (omega arith)

-- the longest file is room for every day, and no more than the day with every count at its limit takes
pub end-most : {counts : FileCounts} → InRange counts → (places_of 5 counts).end ≤ longest_file
end-most r = omega arith

pub end-longest : (places_of 5 (record { choices = 64; slots = 24; choosers = 200; levels = 64; rows = 128 })).end ≡ longest_file
end-longest = refl
