-- No two outcomes fit: each public promise of this crate settles the answer for every input.
use mathlib.Core.Path.{◌≡◌}
use mathlib.Core.Bool.{Bool}
use mathlib.Core.List.{List}
use Prim.Native.Nat.{ℕ}
use Rattle.base_lists.proofs.Outcome.{no_two}
use Rattle.day_rows.specs.Op.{is_op}
use Rattle.day_rows.specs.Refusal.{number_of}
use Rattle.day_rows.specs.Row.{row_of, row_number, plain_row}
use Rattle.day_rows.specs.Check.{row_keeps, rows_judged, counts_in_range, check_of}
use Rattle.std.specs.Prelude.{Result}
use Rattle.day_rows.specs.Told.{tells}
use Rattle.day_rows.specs.declared.refusal.Refusal.{Refusal}
use Rattle.day_rows.specs.declared.row.Row.{Row}
use Rattle.day_rows.specs.declared.check.Counts.{Counts}
use Rattle.day_rows.specs.declared.check.Takes.{Takes}
use Rattle.day_rows.proofs.ToldLaws.{one_told}

pub one-refusal-number : (refusal : Refusal) {a b : ℕ} → a ≡ number_of refusal → b ≡ number_of refusal → a ≡ b
one-refusal-number refusal = no_two

pub one-is_op : (extra : ℕ) {a b : Bool} → a ≡ is_op extra → b ≡ is_op extra → a ≡ b
one-is_op extra = no_two

pub one-row : (number : ℕ) {a b : Row} → a ≡ row_of number → b ≡ row_of number → a ≡ b
one-row number = no_two

-- the four columns of a number's row, each by its field
pub one_column : (column : Row → ℕ) (number : ℕ) {a b : ℕ} → a ≡ column (row_of number) → b ≡ column (row_of number) → a ≡ b
one_column column number = no_two

pub one-row-number : (row : Row) {a b : ℕ} → a ≡ row_number row → b ≡ row_number row → a ≡ b
one-row-number row = no_two

-- the three constructors of a row share one promise
pub one_plain_row : (kind left right : ℕ) {a b : Row} → a ≡ plain_row kind left right → b ≡ plain_row kind left right → a ≡ b
one_plain_row kind left right = no_two

pub one-row-keeps : (counts : Counts) (takes : Takes) (number : ℕ) {a b : Bool} → a ≡ row_keeps counts takes number → b ≡ row_keeps counts takes number → a ≡ b
one-row-keeps counts takes number = no_two

pub one-counts_in-range : (counts : Counts) (takes : Takes) {a b : Bool} → a ≡ counts_in_range counts takes → b ≡ counts_in_range counts takes → a ≡ b
one-counts_in-range counts takes = no_two

pub one-check_of-each-row : (counts : Counts) (takes : Takes) (rows : List ℕ) {a b : Result (Unit {0}) Refusal}
    → tells a ≡ rows_judged counts takes rows → tells b ≡ rows_judged counts takes rows → a ≡ b
one-check_of-each-row counts takes rows = one_told

pub one-check : (counts : Counts) (takes : Takes) (rows : List ℕ) {a b : Result (Unit {0}) Refusal}
    → tells a ≡ check_of counts takes rows → tells b ≡ check_of counts takes rows → a ≡ b
one-check counts takes rows = one_told
