-- No two outcomes fit: each public promise of this crate that no law of another crate settles, settles the answer for
-- every input.
use mathlib.Core.Path.{◌≡◌}
use mathlib.Core.List.{List}
use Prim.Native.Nat.{ℕ}
use Rattle.std.specs.Prelude.{Result}
use Rattle.base_lists.proofs.Outcome.{no_two}
use Rattle.day_rows.specs.Told.{tells}
use Rattle.day_rows.specs.declared.refusal.Refusal.{Refusal}
use Rattle.day_rows.proofs.ToldLaws.{one_told}
use Rattle.day_file.specs.declared.day.FileDay.{FileDay}
use Rattle.text_day.specs.declared.pools.Pools.{Pools}
use Rattle.text_day.specs.Reading.{reading_of, read_out, no_day}

-- a file is read as one day, or refused in one way, 5 with one row
pub one_file : (file : List ℕ) (a b : Result FileDay Refusal) → tells (read_out a) ≡ reading_of file → tells (read_out b) ≡ reading_of file → read_out a ≡ read_out b
one_file file a b = one_told

-- new pools are one
pub one-pools : {a b : Pools} → a ≡ no_day → b ≡ no_day → a ≡ b
one-pools = no_two
