-- Which rows are a choice's, and its entry written row by row: a law for each way through the functions.
use mathlib.Core.Path.{◌≡◌, refl, sym, ◌∙◌, ap}
use mathlib.Core.Bool.{Bool, true, false, ◌&&◌}
use mathlib.Core.List.{List, [], ◌∷◌, ◌++◌}
use Prim.Native.Nat.{ℕ, ◌+◌, ◌≤◌, ◌<◌}
use native.Mathlib.Nat.{add-zero}
use native.Mathlib.Numerals.{add-one}
use native.Mathlib.Omega.{arith}
use borrow.Author.Tests.{eq-eqb, ne_eqb}
use lib.Dec.{eqb}
use lib.ListN.{length, get_or, length-append}
use lib.Seq.{sets, length-sets}
use Rattle.base_lists.specs.Group.{keep_below}
use Rattle.base_lists.proofs.CountBelow.{count_le}
use Rattle.base_lists.proofs.Group.{length-keep}
use Rattle.base_lists.proofs.Stores.{sets-append, stored-none, stored_one}
use Rattle.day_rows.specs.Row.{row_of}
use Rattle.search_map.specs.Map.{names_left, names_right, has_left, has_right, concerns, own_entry}
use Rattle.search_map.specs.steps.Filling.{Wrote, row_if}

-- ---- the test of a row

-- a column that the kind has, or not; kind and column are read by functions
no_column : (names : ℕ → Bool) (rest : Bool) {kind read : ℕ} {b : Bool} → read ≡ kind → b ≡ names read → b ≡ false → false ≡ (names kind && rest)
no_column names rest is e f = rw (sym (ap names is), sym e, f)

column_is : (names : ℕ → Bool) (choice : ℕ) {kind read column value : ℕ} {b : Bool} → read ≡ kind → b ≡ names read → b ≡ true → value ≡ column
    → eqb value choice ≡ (names kind && eqb column choice)
column_is names choice is e f v = rw (sym (ap names is), sym e, f, v)

module _ (choice number : ℕ) {kind : ℕ} (is : kind ≡ (row_of number).kind) where
  pub no_left : {b : Bool} → b ≡ names_left kind → b ≡ false → false ≡ has_left choice (row_of number)
  unfolding has_left
  no_left e f = no_column names_left _ is e f

  pub left_is : {b : Bool} {value : ℕ} → b ≡ names_left kind → b ≡ true → value ≡ (row_of number).left → eqb value choice ≡ has_left choice (row_of number)
  unfolding has_left
  left_is e f v = column_is names_left choice is e f v

  pub no_right : {b : Bool} → b ≡ names_right kind → b ≡ false → false ≡ has_right choice (row_of number)
  unfolding has_right
  no_right e f = no_column names_right _ is e f

  pub right_is : {b : Bool} {value : ℕ} → b ≡ names_right kind → b ≡ true → value ≡ (row_of number).right → eqb value choice ≡ has_right choice (row_of number)
  unfolding has_right
  right_is e f v = column_is names_right choice is e f v

  -- kind 6, left, right
  pub of_kind_6 : kind ≡ 6 → true ≡ concerns choice (row_of number)
  unfolding concerns
  of_kind_6 e = rw (eq-eqb (row_of number).kind 6 (sym is ∙ e))

  module _ (n : kind ≡ 6 → ⊥) where
    pub of_left : {b : Bool} → b ≡ has_left choice (row_of number) → b ≡ true → true ≡ concerns choice (row_of number)
    unfolding concerns
    of_left l t = rw (ne_eqb (row_of number).kind 6 (λ e. n (is ∙ e)), sym l, t)

    pub of_right : {b c : Bool} → b ≡ has_left choice (row_of number) → b ≡ false → c ≡ has_right choice (row_of number) → c ≡ concerns choice (row_of number)
    unfolding concerns
    of_right l t r = rw (ne_eqb (row_of number).kind 6 (λ e. n (is ∙ e)), sym l, t, r)

-- ---- one row written, or not

module _ (numbers : List ℕ) (at row : ℕ) {test : Bool} where
  row_out : test ≡ false → row_if test row ≡ []
  unfolding row_if
  row_out e = rw e

  row_in : test ≡ true → row_if test row ≡ row ∷ []
  unfolding row_if
  row_in e = rw e

  pub wrote_none : {b : Bool} → b ≡ test → b ≡ false → Wrote numbers at (row_if test row) at numbers
  wrote_none e f = stored-none numbers at (row_out (sym e ∙ f))

  pub wrote_one : {b : Bool} {after : List ℕ} → b ≡ test → b ≡ true → after ≡ lib.ListN.set numbers at row → Wrote numbers at (row_if test row) (at + 1) after
  wrote_one e f s = stored_one numbers at row (row_in (sym e ∙ f)) s

-- ---- the loop over the rows

module _ (rows : List ℕ) (choice : ℕ) where
  abbrev is_in : ℕ → Bool
  is_in i = concerns choice (row_of (get_or rows i 0))

  -- the entry of the first rows is written
  pub record EntryTo (numbers₀ : List ℕ) (from i at : ℕ) (numbers : List ℕ) : Type 0 where
    pub within : i ≤ length rows
    pub counted : at ≡ from + length (keep_below i is_in)
    pub stored : numbers ≡ sets numbers₀ from (keep_below i is_in)

  entry_more : (i : ℕ) → keep_below (i + 1) is_in ≡ keep_below i is_in ++ row_if (is_in i) i
  unfolding keep_below row_if
  entry_more i = rw add-one

  pub entry-start : (numbers : List ℕ) (from : ℕ) → EntryTo numbers from 0 from numbers
  unfolding keep_below
  entry-start numbers from = record { within = omega arith; counted = sym (add-zero from); stored = refl }

  module _ {numbers₀ : List ℕ} {from i at : ℕ} {numbers : List ℕ} (s : EntryTo numbers₀ from i at numbers) where
    -- no more numbers than rows
    pub entry-few : at ≤ from + i
    entry-few = omega (arith, s.counted, length-keep i is_in, count_le i is_in)

    pub entry_next : {after : ℕ} {exit : List ℕ} → i < length rows → Wrote numbers at (row_if (is_in i) i) after exit → EntryTo numbers₀ from (i + 1) after exit
    entry_next h w =
        let part = row_if (is_in i) i in
        let kept = keep_below i is_in in
        record {
          within = omega arith;
          counted = rw (entry_more i, length-append kept part) (omega (arith, w.0, s.counted));
          stored = w.1 ∙ rw (entry_more i, s.stored, s.counted) (sym (sets-append numbers₀ from kept part));
        }

    pub entry-same : length numbers ≡ length numbers₀
    entry-same = rw s.stored (length-sets numbers₀ from (keep_below i is_in))

    pub entry_done : length rows ≤ i → Wrote numbers₀ from (own_entry rows choice) at numbers
    unfolding own_entry
    entry_done h =
        let e : i ≡ length rows = omega (arith, s.within) in
        ((rw e at s.counted), (rw e at s.stored))
