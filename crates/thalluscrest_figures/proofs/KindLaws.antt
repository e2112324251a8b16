-- How many rows are of some kinds, counted row by row; the search's list and the roster's among them.
use mathlib.Core.Path.{◌≡◌, refl, sym, ◌∙◌, ap}
use mathlib.Core.Bool.{Bool, ◌&&◌}
use mathlib.Core.List.{List, [], ◌∷◌}
use Prim.Native.Nat.{ℕ, ◌+◌, ◌≤◌, ◌<◌}
use borrow.Author.Tests.{le-leb, lt-leb}
use lib.Dec.{leb}
use lib.ListN.{length, get_or, drop, length-append, drop_of_length-le}
use Rattle.base_lists.specs.Keep.{keep}
use Rattle.base_lists.proofs.Keep.{drop-at-place, keep_append}
use Rattle.reduce_turn.specs.Turn.{kind_of}
use Rattle.reduce.specs.Reduction.{search_list, roster_list}
use Rattle.thalluscrest_figures.specs.steps.Kinds.{of_kinds}

-- ---- one row: of a lower kind, of a higher one, and of these

module _ (low high number : ℕ) {kind : ℕ} (e : kind ≡ kind_of number) where
  pub none-low : kind < low → 0 ≡ length (of_kinds low high (number ∷ []))
  unfolding of_kinds keep
  none-low h = rw (lt-leb low (kind_of number) (rw (sym e) h))

  pub none-high : low ≤ kind → high < kind → 0 ≡ length (of_kinds low high (number ∷ []))
  unfolding of_kinds keep
  none-high l h = rw (le-leb low (kind_of number) (rw (sym e) l), lt-leb (kind_of number) high (rw (sym e) h))

  pub one-counted : low ≤ kind → kind ≤ high → 1 ≡ length (of_kinds low high (number ∷ []))
  unfolding of_kinds keep
  one-counted l h = rw (le-leb low (kind_of number) (rw (sym e) l), le-leb (kind_of number) high (rw (sym e) h))

-- ---- row by row

module _ (low high : ℕ) where
  -- the rows from a place on: the one there, and the rest
  pub kinds-on : (rows : List ℕ) (i : ℕ) → i < length rows
      → length (of_kinds low high (drop i rows)) ≡ length (of_kinds low high (get_or rows i 0 ∷ [])) + length (of_kinds low high (drop (i + 1) rows))
  unfolding of_kinds
  kinds-on rows i h =
      let p : (ℕ → Bool) = λ number. leb low (kind_of number) && leb (kind_of number) high in
      ap (λ (l : List ℕ). length (keep p l)) (drop-at-place rows i 0 h)
      ∙ ap length (keep_append p (get_or rows i 0 ∷ []) (drop (i + 1) rows))
      ∙ length-append (keep p (get_or rows i 0 ∷ [])) (keep p (drop (i + 1) rows))

  -- nothing is left
  pub kinds-done : (rows : List ℕ) (i : ℕ) → length rows ≤ i → length (of_kinds low high (drop i rows)) ≡ 0
  unfolding of_kinds keep
  kinds-done rows i h = rw (drop_of_length-le rows {i = i} h)

-- ---- the two lists of a reduction

pub search-kinds : (rows : List ℕ) → of_kinds 1 6 rows ≡ search_list rows
unfolding of_kinds search_list
search-kinds rows = refl

pub roster-kinds : (rows : List ℕ) → of_kinds 10 13 rows ≡ roster_list rows
unfolding of_kinds roster_list
roster-kinds rows = refl
