-- No two outcomes fit: each public promise of this crate settles the answer, and the pools, for every input.
use mathlib.Core.Path.{◌≡◌}
use mathlib.Core.Bool.{Bool}
use mathlib.Core.List.{List}
use Prim.Native.Nat.{ℕ}
use Rattle.base_lists.proofs.Outcome.{no_two}
use Rattle.std.specs.Prelude.{Result}
use Rattle.day_rows.specs.Told.{outcome, tells}
use Rattle.day_rows.specs.declared.refusal.Refusal.{Refusal}
use Rattle.day_rows.specs.declared.check.Counts.{Counts}
use Rattle.day_rows.proofs.ToldLaws.{one_told-outcome}
use Rattle.day_file.specs.FileDay.{Parts, row_counts, file_counts_in_range}
use Rattle.day_file.specs.File.{sign_bit_flipped}
use Rattle.day_file.specs.Calls.{read_of}
use Rattle.day_file.specs.declared.counts.FileCounts.{FileCounts}

pub one-row-counts : (counts : FileCounts) {a b : Counts} → a ≡ row_counts counts → b ≡ row_counts counts → a ≡ b
one-row-counts counts = no_two

pub one_in-range : (counts : FileCounts) {a b : Bool} → a ≡ file_counts_in_range counts → b ≡ file_counts_in_range counts → a ≡ b
one_in-range counts = no_two

pub one_flip : (v : ℕ) {a b : ℕ} → a ≡ sign_bit_flipped v → b ≡ sign_bit_flipped v → a ≡ b
one_flip v = no_two

pub one_reading : (file : List ℕ) (before : Parts) {r s : Result FileCounts Refusal} {p q : Parts} → outcome (tells r) p ≡ read_of file before → outcome (tells s) q ≡ read_of file before
    → (r ≡ s) × (p ≡ q)
one_reading file before = one_told-outcome
