-- Which kinds a call takes, in numbers: read off the whole table by one computed test.
use mathlib.Core.Path.{◌≡◌, refl, sym, ◌∙◌, ap}
use mathlib.Core.Bool.{Bool, true, false, ◌&&◌, beq}
use Prim.Native.Nat.{ℕ, ◌≤◌, ◌<◌}
use native.Mathlib.Decide.{dec_lt}
use native.Mathlib.Omega.{arith}
use borrow.Author.Tests.{lt-leb}
use lib.Dec.{leb}
use lib.ListN.{get_or-eq_default}
use Rattle.base_lists.specs.Below.{all_below}
use Rattle.base_lists.proofs.Below.{all-each}
use Rattle.day_rows.specs.Kinds.{kinds, columns_of, line}
use Rattle.day_rows.specs.Check.{takes_part}
use Rattle.day_rows.specs.declared.check.Takes.{Takes}
use Rattle.day_rows.specs.declared.check.Takes.TheVariants as takes
use Rattle.day_rows.specs.declared.table.Part.TheVariants as part
use Rattle.day_rows.specs.declared.table.Name.TheVariants as name

-- a call takes a kind: the part of the table that its line names
abbrev pub takes_kind : Takes → ℕ → Bool
takes_kind takes kind = takes_part takes (columns_of kind).0

between : ℕ → ℕ → ℕ → Bool
between low high n = leb low n && leb n high

beq_true : (a b : Bool) → beq a b ≡ true → a ≡ b
beq_true true true h = refl
beq_true true false h = sym h
beq_true false true h = h
beq_true false false h = refl

-- past the table every kind is refused
past-table : (takes : Takes) (kind : ℕ) → 16 ≤ kind → takes_part takes (columns_of kind).0 ≡ takes_part takes part.Refused
unfolding columns_of kinds
past-table takes kind h = ap (λ columns. takes_part takes columns.0) (get_or-eq_default kinds (line part.Refused name.None name.None name.None) h)

-- what agrees over the table's sixteen lines, with a range that ends there, agrees of every number
over-table : (takes : Takes) (low high : ℕ) → high < 16 → takes_part takes part.Refused ≡ false
    → all_below 16 (λ kind. beq (takes_kind takes kind) (between low high kind)) ≡ true
    → (kind : ℕ) → takes_kind takes kind ≡ between low high kind
unfolding between
over-table takes low high h refused agree kind =
    elim (dec_lt kind 16) [
      | yes l ↦ beq_true _ _ (all-each 16 (λ kind. beq (takes_kind takes kind) (between low high kind)) agree kind l)
      | no n ↦ let l : 16 ≤ kind = omega arith in past-table takes kind l ∙ refused ∙ sym (above (leb low kind) (lt-leb kind high (omega arith)))
    ]
  where
    above : (a : Bool) {b : Bool} → b ≡ false → (a && b) ≡ false
    above true e = e
    above false e = refl

-- a day's given rows: kinds 1 to 15
pub takes_given : (kind : ℕ) → takes_kind takes.Given kind ≡ (leb 1 kind && leb kind 15)
unfolding all_below columns_of kinds between
takes_given = over-table takes.Given 1 15 (omega arith) refl refl

-- 'Search and plan check take kinds 1 to 6 only'
pub takes_scheduling : (kind : ℕ) → takes_kind takes.Scheduling kind ≡ (leb 1 kind && leb kind 6)
unfolding all_below columns_of kinds between
takes_scheduling = over-table takes.Scheduling 1 6 (omega arith) refl refl

-- 'the roster's assignment list 10 to 13 only'
pub takes_assignment : (kind : ℕ) → takes_kind takes.Assignment kind ≡ (leb 10 kind && leb kind 13)
unfolding all_below columns_of kinds between
takes_assignment = over-table takes.Assignment 10 13 (omega arith) refl refl
