-- The ranges of a day's counts: the test's ways, and what it says of each count.
use mathlib.Core.Path.{◌≡◌, sym, ◌∙◌, ap}
use mathlib.Core.Bool.{Bool, true, false, ◌&&◌}
use Prim.Native.Nat.{ℕ, ◌+◌, ◌*◌, ◌-◌, ◌≤◌, ◌<◌}
use native.Mathlib.Nat.{le_trans, mul-le-mul_left, mul-le-mul_right}
use native.Mathlib.Omega.{arith}
use borrow.Author.Tests.{le-leb, lt-leb, leb-true, eqb-true}
use lib.Dec.{leb, eqb}
use Rattle.base_lists.proofs.Below.{and_left, and_right}
use Rattle.day_rows.specs.Check.{counts_in_range}
use Rattle.day_rows.specs.declared.check.Counts.{Counts}
use Rattle.day_rows.specs.declared.check.Takes.TheVariants as takes
use Rattle.day_rows.proofs.CountLaws as limits
use Rattle.day_rows.specs.Levels.{levels_in_range}
use Rattle.day_file.specs.FileDay.{row_counts, file_counts_in_range, lengths_full}
use Rattle.day_file.specs.File.{places_of}
use Rattle.day_file.specs.declared.counts.FileCounts.{FileCounts}
use Rattle.day_file.specs.declared.counts.Places.{Places}

module _ (counts : FileCounts) {b : Bool} {asked : Counts} (e : asked ≡ row_counts counts) (t : b ≡ counts_in_range asked takes.Given) where
  rows_test : counts_in_range (row_counts counts) takes.Given ≡ b
  rows_test = sym (ap (λ (c : Counts). counts_in_range c takes.Given) e) ∙ sym t

  pub keep-rows : b ≡ false → false ≡ file_counts_in_range counts
  unfolding file_counts_in_range
  keep-rows h = rw (rows_test ∙ h)

  pub keep-none : b ≡ true → counts.levels < 1 → false ≡ file_counts_in_range counts
  unfolding file_counts_in_range levels_in_range
  keep-none h l = rw (rows_test ∙ h, lt-leb _ _ l)

  pub keep-most : b ≡ true → 1 ≤ counts.levels → leb counts.levels 64 ≡ file_counts_in_range counts
  unfolding file_counts_in_range levels_in_range
  keep-most h l = rw (rows_test ∙ h, le-leb _ _ l)

-- what counts in their ranges say: each is within its limit, and so at most 12,800 preferences
pub record InRange (counts : FileCounts) : Type 0 where
  pub choices : counts.choices ≤ 64
  pub slots : counts.slots ≤ 24
  pub choosers : counts.choosers ≤ 200
  pub rows : counts.rows ≤ 128
  pub some : 1 ≤ counts.levels
  pub levels : counts.levels ≤ 64
  pub cells : counts.choosers * counts.choices ≤ 12800

pub in_range : (counts : FileCounts) → file_counts_in_range counts ≡ true → InRange counts
unfolding file_counts_in_range levels_in_range
in_range counts h =
    let rows = counts_in_range (row_counts counts) takes.Given in
    let some = leb 1 counts.levels in
    let levels = and_right rows _ h in
    let r = limits.within (row_counts counts) takes.Given (and_left rows _ h) in
    record {
      choices = r.choices;
      slots = r.slots;
      choosers = r.choosers;
      rows = r.rows;
      some = leb-true _ _ (and_left some _ levels);
      levels = leb-true _ _ (and_right some _ levels);
      cells = le_trans (mul-le-mul_left counts.choosers r.choices) (mul-le-mul_right 64 r.choosers);
    }

-- the parts of a file of so many bytes, one after the other to its end
pub record Within (counts : FileCounts) (places : Places) (size : ℕ) : Type 0 where
  pub range : InRange counts
  pub levels : places.levels ≡ 11 + 5 * counts.choices
  pub preferences : places.preferences ≡ places.levels + 2 * counts.levels
  pub rows : places.rows ≡ places.preferences + 2 * (counts.choosers * counts.choices)
  pub end : places.rows + 6 * counts.rows ≡ size

pub within : {counts : FileCounts} {places : Places} {size : ℕ} → file_counts_in_range counts ≡ true → (places_of 5 counts).end ≡ size → places ≡ places_of 5 counts
    → Within counts places size
within {counts} {places} {size} k e p =
    let levels : places.levels ≡ (places_of 5 counts).levels = ap (λ (q : Places). q.levels) p in
    let preferences : places.preferences ≡ (places_of 5 counts).preferences = ap (λ (q : Places). q.preferences) p in
    let rows : places.rows ≡ (places_of 5 counts).rows = ap (λ (q : Places). q.rows) p in
    record { range = in_range counts k; levels = levels; preferences = omega arith; rows = omega arith; end = omega arith }

-- what each part asks of the file and, where it is filled from it, of its pool
module _ {counts : FileCounts} {places : Places} {size : ℕ} (w : Within counts places size) where
  pub mins_ask : {pool : ℕ} → pool ≡ 64 → (counts.choices ≤ pool) × ((k : ℕ) → k < counts.choices → 11 + 5 * k + 2 ≤ size)
  mins_ask e = (omega arith, λ k h. omega arith)

  pub maxs_ask : {pool : ℕ} → pool ≡ 64 → (counts.choices ≤ pool) × ((k : ℕ) → k < counts.choices → 13 + 5 * k + 2 ≤ size)
  maxs_ask e = (omega arith, λ k h. omega arith)

  pub optional_ask : {pool : ℕ} → pool ≡ 64 → (counts.choices ≤ pool) × ((k : ℕ) → k < counts.choices → 15 + 5 * k + 1 ≤ size)
  optional_ask e = (omega arith, λ k h. omega arith)

  pub levels_ask : {pool : ℕ} → pool ≡ 64 → (counts.levels ≤ pool) × ((k : ℕ) → k < counts.levels → places.levels + 2 * k + 2 ≤ size)
  levels_ask e = (omega arith, λ k h. omega arith)

  pub preferences_ask : {pool : ℕ} → pool ≡ 12800
      → (counts.choosers * counts.choices ≤ pool) × ((k : ℕ) → k < counts.choosers * counts.choices → places.preferences + 2 * k + 2 ≤ size)
  preferences_ask e = (omega arith, λ k h. omega arith)

  pub rows_ask : {pool : ℕ} → pool ≡ 128 → (counts.rows ≤ pool) × ((k : ℕ) → k < counts.rows → places.rows + 6 * k + 6 ≤ size)
  rows_ask e = (omega arith, λ k h. omega arith)

  pub levels-within : places.levels + 2 * counts.levels ≤ size
  levels-within = omega arith

  pub last-place : places.preferences - 2 ≡ places.levels + 2 * (counts.levels - 1)
  last-place = omega arith

  pub preferences-within : places.preferences + 2 * (counts.choosers * counts.choices) ≤ size
  preferences-within = omega arith

-- the lengths of pools that are lent at their limits
pub record Full (mins maxs optional levels preferences rows : ℕ) : Type 0 where
  pub mins-full : mins ≡ 64
  pub maxs-full : maxs ≡ 64
  pub optional-full : optional ≡ 64
  pub levels-full : levels ≡ 64
  pub preferences-full : preferences ≡ 12800
  pub rows-full : rows ≡ 128

pub full : (mins maxs optional levels preferences rows : ℕ) → lengths_full mins maxs optional levels preferences rows ≡ true
    → Full mins maxs optional levels preferences rows
unfolding lengths_full
full mins maxs optional levels preferences rows h =
    let a = eqb mins 64 in
    let b = a && eqb maxs 64 in
    let c = b && eqb optional 64 in
    let d = c && eqb levels 64 in
    let e = d && eqb preferences 12800 in
    let he = and_left e _ h in
    let hd = and_left d _ he in
    let hc = and_left c _ hd in
    let hb = and_left b _ hc in
    record {
      mins-full = eqb-true _ _ (and_left a _ hb);
      maxs-full = eqb-true _ _ (and_right a _ hb);
      optional-full = eqb-true _ _ (and_right b _ hc);
      levels-full = eqb-true _ _ (and_right c _ hd);
      preferences-full = eqb-true _ _ (and_right d _ he);
      rows-full = eqb-true _ _ (and_right e _ h);
    }
