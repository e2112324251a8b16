-- What a good row check says of each row, in plain words: for callers that lean on a judged list.
use mathlib.Core.Path.{◌≡◌, refl, sym, ◌∙◌}
use mathlib.Core.Bool.{Bool, true, false, cond, ◌&&◌, false≢true}
use mathlib.Core.List.{List, [], ◌∷◌}
use Prim.Native.Nat.{ℕ, ◌≤◌, ◌<◌}
use native.Mathlib.Omega.{arith}
use borrow.Author.Tests.{ltb-true, ltb-false}
use lib.Dec.{ltb}
use lib.ListN.{length, get_or}
use Rattle.base_lists.specs.First.{first_failing}
use Rattle.base_lists.proofs.First.{first-before, first-at}
use Rattle.day_rows.specs.Kinds.{columns_of}
use Rattle.day_rows.specs.Row.{row_of}
use Rattle.day_rows.specs.Told.{refused, good}
use Rattle.day_rows.specs.Check.{takes_part, column_holds, row_keeps, rows_judged}
use Rattle.day_rows.specs.declared.row.Row.{Row}
use Rattle.day_rows.specs.declared.check.Counts.{Counts}
use Rattle.day_rows.specs.declared.check.Takes.{Takes}

-- a row keeps the table: the call takes its kind, and each column holds what the kind's line names
pub record Kept (counts : Counts) (takes : Takes) (row : Row) : Type 0 where
  pub kind : takes_part takes (columns_of row.kind).0 ≡ true
  pub left : column_holds counts (columns_of row.kind).1 row.left ≡ true
  pub right : column_holds counts (columns_of row.kind).2 row.right ≡ true
  pub extra : column_holds counts (columns_of row.kind).3 row.extra ≡ true

all-four : (k l r x : Bool) → (k && l && r && x) ≡ true → (k ≡ true) × (l ≡ true) × (r ≡ true) × (x ≡ true)
all-four true true true true h = (refl, refl, refl, refl)
all-four true true true false h = absurd (false≢true h)
all-four true true false x h = absurd (false≢true h)
all-four true false r x h = absurd (false≢true h)
all-four false l r x h = absurd (false≢true h)

-- a number that keeps the table has a row that does
pub kept : (counts : Counts) (takes : Takes) (number : ℕ) → row_keeps counts takes number ≡ true → Kept counts takes (row_of number)
unfolding row_keeps
kept counts takes number h =
    let f = all-four _ _ _ _ h in
    record { kind = f.0; left = f.1; right = f.2; extra = f.3 }

-- a number whose row keeps the table keeps it
pub keeps : (counts : Counts) (takes : Takes) (number : ℕ) → Kept counts takes (row_of number) → row_keeps counts takes number ≡ true
unfolding row_keeps
keeps counts takes number k = rw (k.kind, k.left, k.right, k.extra)

module _ (counts : Counts) (takes : Takes) (rows : List ℕ) where
  -- where the first bad row is, a good list has none
  good-by : (b : Bool) (first : ℕ) → cond b (refused 5 (first ∷ [])) good ≡ good → b ≡ false
  good-by true first e = let z : ◌≡◌ {A = ℕ} 0 1 = cc in absurd (omega arith)
  good-by false first e = refl

  -- of a good list every row keeps the table
  pub good-each : rows_judged counts takes rows ≡ good → (k : ℕ) → k < length rows → row_keeps counts takes (get_or rows k 0) ≡ true
  unfolding rows_judged
  good-each e k h =
      let f = first_failing (row_keeps counts takes) rows in
      let past : length rows ≤ f = ltb-false f (length rows) (good-by (ltb f (length rows)) f e) in
      first-before (row_keeps counts takes) rows 0 k (omega arith)

  -- a list of which every row keeps the table is good
  pub each-good : ((k : ℕ) → k < length rows → row_keeps counts takes (get_or rows k 0) ≡ true) → rows_judged counts takes rows ≡ good
  unfolding rows_judged
  each-good all = by (ltb (first_failing (row_keeps counts takes) rows) (length rows)) refl
    where
      by : (b : Bool) → ltb (first_failing (row_keeps counts takes) rows) (length rows) ≡ b → cond b (refused 5 (first_failing (row_keeps counts takes) rows ∷ [])) good ≡ good
      by true t = absurd (false≢true (sym (first-at (row_keeps counts takes) rows 0 (ltb-true _ _ t)) ∙ all _ (ltb-true _ _ t)))
      by false t = refl
