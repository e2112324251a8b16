-- A row that keeps the table fits its bytes in a day file: kind and left are one byte each.
use mathlib.Core.Path.{◌≡◌, refl, sym, ◌∙◌, ap}
use mathlib.Core.Bool.{Bool, true, false, false≢true}
use Prim.Native.Nat.{ℕ, ◌≤◌, ◌<◌}
use native.Mathlib.Decide.{dec_lt}
use native.Mathlib.Omega.{arith}
use borrow.Author.Tests.{ltb-true, leb-true}
use lib.Dec.{leb}
use lib.ListN.{get_or-eq_default}
use Rattle.base_lists.specs.Below.{all_below}
use Rattle.base_lists.proofs.Below.{all-each, and_right}
use Rattle.day_rows.specs.Kinds.{kinds, columns_of, line}
use Rattle.day_rows.specs.Row.{row_of}
use Rattle.day_rows.specs.Check.{takes_part, column_holds, row_keeps}
use Rattle.day_rows.specs.declared.table.Part.{Part}
use Rattle.day_rows.specs.declared.table.Part.TheVariants as part
use Rattle.day_rows.specs.declared.table.Name.{Name}
use Rattle.day_rows.specs.declared.table.Name.TheVariants as name
use Rattle.day_rows.specs.declared.table.Columns.{Columns}
use Rattle.day_rows.specs.declared.check.Counts.{Counts}
use Rattle.day_rows.specs.declared.check.Takes.TheVariants as takes
use Rattle.day_rows.proofs.KindLaws.{takes_given}
use Rattle.day_rows.proofs.KeptLaws.{kept}

-- every line of the table but the refused ones names a choice, a slot or a chooser on the left
abbrev is_number : Name → Bool
is_number name.None = false
is_number name.Choice = true
is_number name.Slot = true
is_number name.Chooser = true
is_number name.Limit = false
is_number name.Offset = false
is_number name.Op = false

abbrev names_left : Part → Name → Bool
names_left part.Refused n = true
names_left part.GivenOnly n = is_number n
names_left part.Scheduling n = is_number n
names_left part.Assignment n = is_number n

names-left : (kind : ℕ) → names_left (columns_of kind).0 (columns_of kind).1 ≡ true
unfolding columns_of kinds all_below
names-left kind =
    elim (dec_lt kind 16) [
      | yes h ↦ all-each 16 (λ k. names_left (columns_of k).0 (columns_of k).1) refl kind h
      | no h ↦ ap (λ (c : Columns). names_left c.0 c.1) (get_or-eq_default kinds (line part.Refused name.None name.None name.None) {n = kind} (omega arith))
    ]

module _ (counts : Counts) (number : ℕ) (h : row_keeps counts takes.Given number ≡ true) where
  -- the kind is one of the table's
  pub keeps-kind : (row_of number).kind ≤ 15
  keeps-kind =
      let t = (kept counts takes.Given number h).kind in
      leb-true _ _ (and_right (leb 1 (row_of number).kind) (leb (row_of number).kind 15) (sym (takes_given (row_of number).kind) ∙ t))

  -- the left column is under any number that each of the three counts is at most
  pub keeps-left : (most : ℕ) → counts.choices ≤ most → counts.slots ≤ most → counts.choosers ≤ most → (row_of number).left < most
  keeps-left most c s p =
      let k = kept counts takes.Given number h in
      go (columns_of (row_of number).kind).0 (columns_of (row_of number).kind).1 (names-left (row_of number).kind) k.kind k.left
    where
      named : (n : Name) → is_number n ≡ true → column_holds counts n (row_of number).left ≡ true → (row_of number).left < most
      named name.None t k = absurd (false≢true t)
      named name.Choice t k = omega (arith, ltb-true (row_of number).left counts.choices k)
      named name.Slot t k = omega (arith, ltb-true (row_of number).left counts.slots k)
      named name.Chooser t k = omega (arith, ltb-true (row_of number).left counts.choosers k)
      named name.Limit t k = absurd (false≢true t)
      named name.Offset t k = absurd (false≢true t)
      named name.Op t k = absurd (false≢true t)

      go : (q : Part) (n : Name) → names_left q n ≡ true → takes_part takes.Given q ≡ true → column_holds counts n (row_of number).left ≡ true
          → (row_of number).left < most
      go part.Refused n t u k = absurd (false≢true u)
      go part.GivenOnly n t u k = named n t k
      go part.Scheduling n t u k = named n t k
      go part.Assignment n t u k = named n t k
