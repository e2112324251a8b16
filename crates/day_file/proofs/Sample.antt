-- The file that 01 shows: two choices of 0..1, two slots, one chooser, one level 0. Computed from the
-- definitions.
use mathlib.Core.Path.{◌≡◌, refl}
use mathlib.Core.List.{List, [], ◌∷◌}
use Prim.Native.Nat.{ℕ}
use Rattle.base_lists.specs.All.{all_at_most}
use Rattle.base_lists.specs.Below.{all_below}
use Rattle.base_lists.specs.First.{first_failing}
use Rattle.base_lists.specs.Flat.{list_below, join_below}
use Rattle.day_rows.specs.Check.{counts_in_range, rows_judged}
use Rattle.day_rows.specs.Told.{good}
use Rattle.day_rows.specs.Levels.{levels_in_range, levels_rise, last_level}
use Rattle.day_file.specs.FileDay.{parts, FileDay, day, file_counts_in_range, day_rows_judged}
use Rattle.day_file.specs.File.{word, word_at, length_in, head_bytes, choice_bytes, lists_in, day_in, bytes_of}
use Rattle.day_file.specs.Calls.{head_judged, body_judged, file_judged}

abbrev pub sample : List ℕ
sample =
    0 ∷ 0 ∷ 0 ∷ 0x17 ∷ 1 ∷ 2 ∷ 2 ∷ 1 ∷ 1 ∷ 0 ∷ 0 ∷ 0 ∷ 0 ∷ 0 ∷ 1 ∷ 0 ∷ 0 ∷ 0 ∷ 0 ∷ 1 ∷ 0 ∷ 0 ∷ 0 ∷ 0 ∷ 0 ∷ 0 ∷ 0 ∷ []

abbrev pub sample_day : FileDay
sample_day =
    day
    (record { choices = 2; slots = 2; choosers = 1; levels = 1; rows = 0 })
    (parts (0 ∷ 0 ∷ []) (1 ∷ 1 ∷ []) (0 ∷ 0 ∷ []) (0 ∷ []) (0 ∷ 0 ∷ []) [])

pub sample-good : file_judged sample ≡ good
unfolding file_judged head_judged body_judged file_counts_in_range counts_in_range levels_in_range length_in word_at lists_in levels_rise last_level all_at_most day_rows_judged rows_judged first_failing all_below list_below
sample-good = refl

pub sample_reads : day_in sample ≡ sample_day
unfolding word_at lists_in list_below
sample_reads = refl

pub sample-writes : bytes_of sample_day ≡ sample
unfolding bytes_of head_bytes choice_bytes word join_below
sample-writes = refl
