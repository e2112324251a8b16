-- The row check, a law for each way through its functions.
use mathlib.Core.Path.{◌≡◌, sym, ◌∙◌}
use mathlib.Core.Bool.{Bool, true, false}
use mathlib.Core.List.{List, [], ◌∷◌}
use Prim.Native.Nat.{ℕ, ◌+◌, ◌≤◌, ◌<◌}
use native.Mathlib.Omega.{arith}
use borrow.Author.Tests.{lt-ltb, le-ltb, le-leb, lt-leb, eq-eqb, ne_eqb}
use lib.Dec.{leb}
use lib.ListN.{length, get_or, drop}
use Rattle.base_lists.specs.First.{first_failing}
use Rattle.base_lists.proofs.First.{first_passes, first-fails}
use Rattle.day_rows.specs.Kinds.{columns_of}
use Rattle.day_rows.specs.Row.{row_of}
use Rattle.day_rows.specs.Told.{refused, refuse, good}
use Rattle.day_rows.specs.Check.{takes_part, column_holds, row_keeps, rows_judged, counts_in_range, most_rows, check_of}
use Rattle.day_rows.specs.declared.table.Columns.{Columns}
use Rattle.day_rows.specs.declared.check.Counts.{Counts}
use Rattle.day_rows.specs.declared.check.Takes.{Takes}

-- a number's columns are judged one after the other
module _ (counts : Counts) (takes : Takes) (number : ℕ) {columns : Columns} (e : columns ≡ columns_of (row_of number).kind) where
  pub kind-fails : takes_part takes columns.0 ≡ false → false ≡ row_keeps counts takes number
  unfolding row_keeps
  kind-fails t = rw (sym e, t)

  pub left-fails : takes_part takes columns.0 ≡ true → column_holds counts columns.1 (row_of number).left ≡ false → false ≡ row_keeps counts takes number
  unfolding row_keeps
  left-fails t l = rw (sym e, t, l)

  pub right-fails : takes_part takes columns.0 ≡ true → column_holds counts columns.1 (row_of number).left ≡ true
      → column_holds counts columns.2 (row_of number).right ≡ false → false ≡ row_keeps counts takes number
  unfolding row_keeps
  right-fails t l r = rw (sym e, t, l, r)

  pub extra-decides : (b : Bool) → takes_part takes columns.0 ≡ true → column_holds counts columns.1 (row_of number).left ≡ true
      → column_holds counts columns.2 (row_of number).right ≡ true → column_holds counts columns.3 (row_of number).extra ≡ b → b ≡ row_keeps counts takes number
  unfolding row_keeps
  extra-decides b t l r x = rw (sym e, t, l, r, x)

module _ (counts : Counts) (takes : Takes) (rows : List ℕ) where
  -- the search for the first bad row, from place i on
  pub RowsFrom : ℕ → Type 0
  RowsFrom i = first_failing (row_keeps counts takes) rows ≡ i + first_failing (row_keeps counts takes) (drop i rows)

  pub from_start : RowsFrom 0
  unfolding RowsFrom
  from_start = omega arith

  pub from_next : (i : ℕ) → i < length rows → RowsFrom i → row_keeps counts takes (get_or rows i 0) ≡ true → RowsFrom (i + 1)
  unfolding RowsFrom
  from_next i h f t = f ∙ first_passes (row_keeps counts takes) rows i 0 h t

  pub stops_at : (i : ℕ) → i < length rows → RowsFrom i → row_keeps counts takes (get_or rows i 0) ≡ false → refused 5 (i ∷ []) ≡ rows_judged counts takes rows
  unfolding RowsFrom rows_judged
  stops_at i h f t =
      let e : first_failing (row_keeps counts takes) rows ≡ i = omega (arith, first-fails (row_keeps counts takes) rows i 0 h t) in
      rw (e, lt-ltb i (length rows) h)

  pub none_bad : (i : ℕ) → length rows ≤ i → RowsFrom i → good ≡ rows_judged counts takes rows
  unfolding RowsFrom rows_judged
  none_bad i h f = rw (le-ltb (first_failing (row_keeps counts takes) rows) (length rows) (omega arith))

-- the ranges of the counts, one test after the other
module _ (counts : Counts) (takes : Takes) where
  pub many-choices : 64 < counts.choices → false ≡ counts_in_range counts takes
  unfolding counts_in_range
  many-choices h = rw (lt-leb _ _ h)

  pub many-slots : counts.choices ≤ 64 → 24 < counts.slots → false ≡ counts_in_range counts takes
  unfolding counts_in_range
  many-slots c h = rw (le-leb _ _ c, lt-leb _ _ h)

  pub many-choosers : counts.choices ≤ 64 → counts.slots ≤ 24 → 200 < counts.choosers → false ≡ counts_in_range counts takes
  unfolding counts_in_range
  many-choosers c s h = rw (le-leb _ _ c, le-leb _ _ s, lt-leb _ _ h)

  pub rows_decide : counts.choices ≤ 64 → counts.slots ≤ 24 → counts.choosers ≤ 200 → leb counts.rows (most_rows takes) ≡ counts_in_range counts takes
  unfolding counts_in_range
  rows_decide c s h = rw (le-leb _ _ c, le-leb _ _ s, le-leb _ _ h)

-- the row check as a call: 1 before 2, 2 before 5
module _ (counts : Counts) (takes : Takes) (rows : List ℕ) where
  pub call_count : counts_in_range counts takes ≡ false → refuse 1 ≡ check_of counts takes rows
  unfolding check_of
  call_count h = rw h

  pub call_length : counts_in_range counts takes ≡ true → (length rows ≡ counts.rows → ⊥) → refuse 2 ≡ check_of counts takes rows
  unfolding check_of
  call_length h n = rw (h, ne_eqb _ _ n)

  pub call_rows : counts_in_range counts takes ≡ true → length rows ≡ counts.rows → rows_judged counts takes rows ≡ check_of counts takes rows
  unfolding check_of
  call_rows h e = rw (h, eq-eqb _ _ e)
