-- A file's body, judged on its bytes, is its lists judged.
use mathlib.Core.Path.{◌≡◌, sym, ◌∙◌}
use mathlib.Core.Bool.{Bool, true, false}
use mathlib.Core.List.{List}
use Prim.Native.Nat.{ℕ, ◌+◌, ◌-◌, ◌≤◌, ◌<◌}
use native.Mathlib.Omega.{arith}
use borrow.Author.Tests.{lt-ltb, le-ltb, le-leb, lt-leb}
use lib.Dec.{ltb, leb}
use lib.ListN.{get_or}
use Rattle.base_lists.specs.All.{all_at_most}
use Rattle.base_lists.specs.Below.{all_below}
use Rattle.base_lists.specs.Flat.{list_below}
use Rattle.base_lists.proofs.Below.{all_more, one-fails}
use Rattle.base_lists.proofs.Through.{all_ext}
use Rattle.base_lists.proofs.Flat.{length-list, get_d_list}
use Rattle.day_rows.specs.Row.{row_number}
use Rattle.day_rows.specs.Levels.{levels_rise, last_level}
use Rattle.day_file.specs.File.{word_at, sign_bit_flipped, row_at, counts_in}
use Rattle.day_file.specs.declared.counts.Column.{Column}
use Rattle.day_file.specs.declared.counts.FileCounts.{FileCounts}
use Rattle.day_file.specs.steps.Columns.{place}

-- the columns that were read are the row's
pub row_read : (file : List ℕ) (at : ℕ) {kind left right extra word number : ℕ}
    → kind ≡ get_or file at 0 → left ≡ get_or file (at + 1) 0 → right ≡ word_at file (at + 2) → word ≡ word_at file (at + 4) → extra ≡ sign_bit_flipped word
    → number ≡ row_number (record { kind = kind; left = left; right = right; extra = extra }) → number ≡ row_at file at
unfolding row_at row_number
row_read file at k l r w x n = n ∙ rw (k, l, r, x, w)

-- the test of levels that rise, on words of the file
abbrev pub rising : List ℕ → Column → ℕ → Bool
rising file levels i = ltb (word_at file (place levels i)) (word_at file (place levels (i + 1)))

module _ (file : List ℕ) (levels : Column) (i : ℕ) {low high : ℕ} (l : low ≡ word_at file (place levels i)) (h : high ≡ word_at file (place levels (i + 1))) where
  pub rise-fails : (n : ℕ) → i + 1 < n → high ≤ low → false ≡ all_below (n - 1) (rising file levels)
  rise-fails n k f = sym (one-fails (n - 1) (rising file levels) i (omega arith) (le-ltb _ _ (rw (h, l) at f)))

  pub rise-more : all_below i (rising file levels) ≡ true → low < high → all_below (i + 1) (rising file levels) ≡ true
  rise-more a f = all_more (rising file levels) i a (lt-ltb _ _ (rw (h, l) at f))

-- the test of words of the file that are at most a limit
abbrev pub under : List ℕ → Column → ℕ → ℕ → Bool
under file words limit i = leb (word_at file (place words i)) limit

module _ (file : List ℕ) (words : Column) (limit i : ℕ) {v : ℕ} (e : v ≡ word_at file (place words i)) where
  pub under-fails : (n : ℕ) → i < n → limit < v → false ≡ all_below n (under file words limit)
  under-fails n k f = sym (one-fails n (under file words limit) i k (lt-leb _ _ (rw e at f)))

  pub under_more : all_below i (under file words limit) ≡ true → v ≤ limit → all_below (i + 1) (under file words limit) ≡ true
  under_more a f = all_more (under file words limit) i a (le-leb _ _ (rw e at f))

-- the tests of lists made by place are the tests on the bytes
module _ (n : ℕ) (f : ℕ → ℕ) where
  pub at-most-list : (limit : ℕ) → all_at_most limit (list_below n f) ≡ all_below n (λ i. leb (f i) limit)
  unfolding all_at_most
  at-most-list limit =
      rw (length-list n f)
      (all_ext n (λ i. leb (get_or (list_below n f) i 0) limit) (λ i. leb (f i) limit) (λ i h. rw (get_d_list n f i 0 h)))

  pub rise-list : levels_rise (list_below n f) ≡ all_below (n - 1) (λ i. ltb (f i) (f (i + 1)))
  unfolding levels_rise
  rise-list =
      rw (length-list n f)
      (all_ext (n - 1) (λ i. ltb (get_or (list_below n f) i 0) (get_or (list_below n f) (i + 1) 0)) (λ i. ltb (f i) (f (i + 1)))
      (λ i h. rw (get_d_list n f i 0 (omega arith), get_d_list n f (i + 1) 0 (omega arith))))

  pub last-list : 1 ≤ n → last_level (list_below n f) ≡ f (n - 1)
  unfolding last_level
  last-list h = rw (length-list n f) (get_d_list n f (n - 1) 0 (omega arith))
