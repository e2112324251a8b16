-- The search's part of a reduction: how many rows it has, and that the listing takes it.
use mathlib.Core.Path.{◌≡◌, refl, sym, ◌∙◌, ap}
use mathlib.Core.Bool.{Bool, true, false, ◌&&◌, cond}
use mathlib.Core.List.{List, [], ◌∷◌, Memᴰ}
use mathlib.Core.Logic.{⊎_elim}
use Prim.Native.Nat.{ℕ, zero, suc, ◌+◌, ◌≤◌, ◌<◌}
use native.Mathlib.Omega.{arith}
use borrow.Author.Tests.{le-leb, leb-true}
use lib.Dec.{leb}
use lib.ListN.{length, get_or}
use Rattle.std.specs.List.{count_by}
use Rattle.std.proofs.lemmas.List.Recursion.{is_count_by}
use Rattle.base_lists.specs.Keep.{keep}
use Rattle.base_lists.proofs.Below.{and_left, and_right}
use Rattle.base_lists.proofs.Keep.{kept_in}
use Rattle.day_rows.specs.Check.{counts_in_range, column_holds, row_keeps, rows_judged}
use Rattle.day_rows.specs.Kinds.{columns_of}
use Rattle.day_rows.specs.Row.{row_of}
use Rattle.day_rows.specs.declared.check.Counts.{Counts}
use Rattle.day_rows.specs.declared.check.Takes.{Takes}
use Rattle.day_rows.specs.declared.check.Takes.TheVariants as takes
use Rattle.day_rows.specs.Told.{good}
use Rattle.day_rows.specs.declared.table.Name.{Name}
use Rattle.day_rows.specs.declared.table.Name.TheVariants as name
use Rattle.day_rows.specs.declared.row.Row.{Row}
use Rattle.day_rows.proofs.KeptLaws.{kept, keeps, each-good}
use Rattle.day_rows.proofs.KindLaws.{takes_assignment}
use Rattle.reduce_turn.specs.Turn.{kind_of}
use Rattle.reduce.specs.Reduction.{reduced_rows, search_list}
use Rattle.reduce.proofs.TableKept.{Taken, result_taken}
use Rattle.text_day.specs.Prepared.{with_rows}

-- ---- the count

module _ (number : ℕ) {row : Row} (e : row ≡ row_of number) where
  kind-is : row.kind ≡ kind_of number
  kind-is = ap (λ (r : Row). r.kind) e

  -- a row of kinds 1 to 6 is one of the search's
  pub one-searched : 1 ≤ row.kind → row.kind ≤ 6 → 1 ≡ length (search_list (number ∷ []))
  unfolding search_list keep
  one-searched l h = rw (le-leb 1 (kind_of number) (rw (sym kind-is) l), le-leb (kind_of number) 6 (rw (sym kind-is) h))

-- the length of the search's list is the library's count of its rows
pub searched-counted : (rows : List ℕ) → length (search_list rows) ≡ count_by (λ number. leb 1 (kind_of number) && leb (kind_of number) 6) rows
unfolding search_list keep
searched-counted =
    is_count_by (λ rows. length (search_list rows)) (λ number. leb 1 (kind_of number) && leb (kind_of number) 6) refl
    λ number rows. go number (search_list rows) (leb 1 (kind_of number) && leb (kind_of number) 6)
  where
    go : (number : ℕ) (rows : List ℕ) (b : Bool) → length (cond b (number ∷ rows) rows) ≡ cond b (1 + length rows) (length rows)
    go number rows true = omega arith
    go number rows false = refl

-- a list has no more of them than it has rows
pub search-few : (rows : List ℕ) → length (search_list rows) ≤ length rows
unfolding search_list keep
search-few [] = omega arith
search-few (number ∷ rows) = go (leb 1 (kind_of number) && leb (kind_of number) 6) (search-few rows)
  where
    go : (b : Bool) → length (search_list rows) ≤ length rows → length (cond b (number ∷ search_list rows) (search_list rows)) ≤ suc (length rows)
    go true h = omega (arith, h)
    go false h = omega (arith, h)

-- ---- the rows of the search's list keep the table, whatever the count of rows

module _ (counts : Counts) (rows : ℕ) where
  holds_same : (names : Name) (value : ℕ) → column_holds counts names value ≡ true → column_holds (with_rows counts rows) names value ≡ true
  holds_same name.None value h = h
  holds_same name.Choice value h = h
  holds_same name.Slot value h = h
  holds_same name.Chooser value h = h
  holds_same name.Limit value h = h
  holds_same name.Offset value h = h
  holds_same name.Op value h = h

  pub keeps_same : (takes : Takes) (number : ℕ) → row_keeps counts takes number ≡ true → row_keeps (with_rows counts rows) takes number ≡ true
  keeps_same takes number h =
      let k = kept counts takes number h in
      let columns = columns_of (row_of number).kind in
      keeps (with_rows counts rows) takes number
      (record {
        kind = k.kind;
        left = holds_same columns.1 (row_of number).left k.left;
        right = holds_same columns.2 (row_of number).right k.right;
        extra = holds_same columns.3 (row_of number).extra k.extra;
      })

-- what holds of every member holds at every place
each_member {ℓ κ} : {A : Type ℓ} (P : A → Type κ) (xs : List A) (d : A) → ((a : A) → Memᴰ a xs → P a) → (k : ℕ) → k < length xs → P (get_or xs k d)
each_member P [] d h k l = absurd (omega arith)
each_member P (x ∷ xs) d h zero l = h x (Memᴰ.head refl)
each_member P (x ∷ xs) d h (suc k) l = each_member P xs d (λ a m. h a (Memᴰ.tail m)) k (omega arith)

-- a row that is taken and of kinds 1 to 6 is the search's
taken-searched : (counts : Counts) (number : ℕ) → Taken counts number → (leb 1 (kind_of number) && leb (kind_of number) 6) ≡ true → row_keeps counts takes.Scheduling number ≡ true
unfolding Taken
taken-searched counts number t s =
    ⊎_elim (λ k. k)
    (λ k. let a : (leb 10 (kind_of number) && leb (kind_of number) 13) ≡ true = sym (takes_assignment (kind_of number)) ∙ (kept counts takes.Assignment number k).kind in
    let low : 10 ≤ kind_of number = leb-true 10 (kind_of number) (and_left _ _ a) in
    let high : kind_of number ≤ 6 = leb-true (kind_of number) 6 (and_right (leb 1 (kind_of number)) _ s) in
    absurd (omega arith))
    t

-- the search's list of a judged day is judged good
pub search-good : (counts : Counts) (rows : List ℕ) (n : ℕ) → counts_in_range counts takes.Given ≡ true → rows_judged counts takes.Given rows ≡ good
    → rows_judged (with_rows counts n) takes.Scheduling (search_list (reduced_rows counts rows)) ≡ good
unfolding search_list
search-good counts rows n c g =
    each-good (with_rows counts n) takes.Scheduling (keep searched_row (reduced_rows counts rows))
    (each_member (λ number. row_keeps (with_rows counts n) takes.Scheduling number ≡ true) (keep searched_row (reduced_rows counts rows)) 0 member)
  where
    searched_row : ℕ → Bool
    searched_row number = leb 1 (kind_of number) && leb (kind_of number) 6

    member : (number : ℕ) → Memᴰ number (keep searched_row (reduced_rows counts rows)) → row_keeps (with_rows counts n) takes.Scheduling number ≡ true
    member number m =
        let k = kept_in searched_row (reduced_rows counts rows) number m in
        keeps_same counts n takes.Scheduling number (taken-searched counts number (result_taken counts rows c g k.0) k.1)
