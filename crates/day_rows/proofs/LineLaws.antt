-- The lines that some call takes: which names stand in which of their columns, and a row judged by its line.
use mathlib.Core.Path.{◌≡◌, refl, sym, ◌∙◌, ap}
use mathlib.Core.Bool.{Bool, true, false, false≢true}
use Prim.Native.Nat.{ℕ}
use native.Mathlib.Decide.{dec_lt}
use native.Mathlib.Omega.{arith}
use lib.ListN.{get_or-eq_default}
use Rattle.base_lists.specs.Below.{all_below}
use Rattle.base_lists.proofs.Below.{all-each}
use Rattle.day_rows.specs.Kinds.{kinds, columns_of, line}
use Rattle.day_rows.specs.Check.{takes_part, column_holds}
use Rattle.day_rows.specs.declared.table.Part.{Part}
use Rattle.day_rows.specs.declared.table.Part.TheVariants as part
use Rattle.day_rows.specs.declared.table.Name.{Name}
use Rattle.day_rows.specs.declared.table.Name.TheVariants as name
use Rattle.day_rows.specs.declared.table.Columns.{Columns}
use Rattle.day_rows.specs.declared.check.Counts.{Counts}
use Rattle.day_rows.specs.declared.check.Takes.{Takes}
use Rattle.day_rows.specs.declared.check.Takes.TheVariants as takes

-- a test that a refused line need not pass
abbrev or_refused : Part → Bool → Bool
or_refused part.Refused b = true
or_refused part.GivenOnly b = b
or_refused part.Scheduling b = b
or_refused part.Assignment b = b

no_call_takes : (t : Takes) → takes_part t part.Refused ≡ false
no_call_takes takes.Given = refl
no_call_takes takes.Scheduling = refl
no_call_takes takes.Assignment = refl

passed : (t : Takes) (p : Part) (b : Bool) → takes_part t p ≡ true → or_refused p b ≡ true → b ≡ true
passed t part.Refused b h o = absurd (false≢true (sym (no_call_takes t) ∙ h))
passed t part.GivenOnly b h o = o
passed t part.Scheduling b h o = o
passed t part.Assignment b h o = o

-- what the sixteen lines pass, the line of every number passes
over_lines : (test : Columns → Bool) → all_below 16 (λ kind. or_refused (columns_of kind).0 (test (columns_of kind))) ≡ true
    → (kind : ℕ) → or_refused (columns_of kind).0 (test (columns_of kind)) ≡ true
unfolding columns_of kinds
over_lines test agree kind =
    elim (dec_lt kind 16) [
      | yes h ↦ all-each 16 (λ k. or_refused (columns_of k).0 (test (columns_of k))) agree kind h
      | no h ↦ ap (λ (c : Columns). or_refused c.0 (test c)) (get_or-eq_default kinds (line part.Refused name.None name.None name.None) {n = kind} (omega arith))
    ]

-- a line that a call takes passes what the sixteen lines pass
pub on_line : (test : Columns → Bool) → all_below 16 (λ kind. or_refused (columns_of kind).0 (test (columns_of kind))) ≡ true
    → (t : Takes) (kind : ℕ) {columns : Columns} → columns ≡ columns_of kind → takes_part t columns.0 ≡ true → test columns ≡ true
on_line test agree t kind {columns} e h =
    passed t columns.0 (test columns) h (ap (λ (c : Columns). or_refused c.0 (test c)) e ∙ over_lines test agree kind)

-- a column's test, told of the number's column
pub column_is : (counts : Counts) (names : Name) {value column : ℕ} {held b : Bool} → held ≡ column_holds counts names value → value ≡ column → held ≡ b
    → column_holds counts names column ≡ b
column_is counts names h v t = ap (λ (x : ℕ). column_holds counts names x) (sym v) ∙ sym h ∙ t
