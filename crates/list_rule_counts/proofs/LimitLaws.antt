-- What limits make of the figures, as the code comes by it.
use mathlib.Core.Path.{◌≡◌, refl, sym, ◌∙◌, ap, ap₂}
use mathlib.Core.Bool.{cond}
use mathlib.Core.List.{List, ◌∷◌}
use Prim.Native.Nat.{ℕ, suc, ◌+◌, ◌≤◌, ◌<◌, max, min}
use native.Mathlib.Numerals.{add-one}
use native.Mathlib.Omega.{arith}
use borrow.Author.Tests.{lt-ltb, le-ltb, eq-eqb, ne_eqb}
use lib.Dec.{eqb}
use lib.ListN.{length, get_or, set, drop, drop_of_length-le}
use Rattle.base_lists.proofs.Keep.{drop-at-place}
use Rattle.day_rows.specs.Op.{eq_op, gt_op, geq_op, neq_op, leq_op, lt_op}
use Rattle.day_rows.specs.Row.{row_of}
use Rattle.day_rows.specs.declared.row.Row.{Row}
use Rattle.list_rule_counts.specs.steps.CountRule.{raised_by, lowered_by, limit_changes, limits_change}

-- ---- the limits

pub other-same : (count limit : ℕ) → (count ≡ limit → ⊥) → count ≡ cond (eqb count limit) (suc count) count
other-same count limit n = rw (ne_eqb _ _ n)

pub other-more : (count limit : ℕ) → count ≡ limit → count + 1 ≡ cond (eqb count limit) (suc count) count
other-more count limit e = rw (eq-eqb _ _ e) (add-one count)

module _ (op limit count : ℕ) where
  pub raised_eq : op ≡ eq_op → max count limit ≡ raised_by op limit count
  unfolding raised_by
  raised_eq e = rw e

  pub raised_geq : op ≡ geq_op → max count limit ≡ raised_by op limit count
  unfolding raised_by
  raised_geq e = rw e

  pub raised_gt : (past : ℕ) → past ≡ limit + 1 → op ≡ gt_op → max count past ≡ raised_by op limit count
  unfolding raised_by
  raised_gt past p e = rw e (ap (λ (x : ℕ). max count x) (p ∙ add-one limit))

  pub raised_neq : op ≡ neq_op → cond (eqb count limit) (suc count) count ≡ raised_by op limit count
  unfolding raised_by
  raised_neq e = rw e

  pub raised_not : (op ≡ eq_op → ⊥) → (op ≡ geq_op → ⊥) → (op ≡ gt_op → ⊥) → (op ≡ neq_op → ⊥) → count ≡ raised_by op limit count
  unfolding raised_by
  raised_not a b c d = sym (simp (ne_eqb _ _ a, ne_eqb _ _ b, ne_eqb _ _ c, ne_eqb _ _ d))

  -- what a limit makes of the first count that the slot can't have
  pub lowered_eq : (past : ℕ) → past ≡ limit + 1 → op ≡ eq_op → min count past ≡ lowered_by op limit count
  unfolding lowered_by
  lowered_eq past p e = rw e (ap (λ (x : ℕ). min count x) (p ∙ add-one limit))

  pub lowered_leq : (past : ℕ) → past ≡ limit + 1 → op ≡ leq_op → min count past ≡ lowered_by op limit count
  unfolding lowered_by
  lowered_leq past p e = rw e (ap (λ (x : ℕ). min count x) (p ∙ add-one limit))

  pub lowered_lt : op ≡ lt_op → min count limit ≡ lowered_by op limit count
  unfolding lowered_by
  lowered_lt e = rw e

  pub lowered_not : (op ≡ eq_op → ⊥) → (op ≡ leq_op → ⊥) → (op ≡ lt_op → ⊥) → count ≡ lowered_by op limit count
  unfolding lowered_by
  lowered_not a b c = sym (simp (ne_eqb _ _ a, ne_eqb _ _ b, ne_eqb _ _ c))

-- one row, by either change
module _ (by : ℕ → ℕ → ℕ → ℕ) (row : Row) (figures : List ℕ) where
  pub row_other : (kind : ℕ) → kind ≡ row.kind → (kind ≡ 6 → ⊥) → figures ≡ limit_changes by row figures
  unfolding limit_changes
  row_other kind k n = rw (ne_eqb row.kind 6 (λ e. n (k ∙ e)))

  pub row-past : (kind slot : ℕ) → kind ≡ row.kind → kind ≡ 6 → slot ≡ row.left → 24 ≤ slot → figures ≡ limit_changes by row figures
  unfolding limit_changes
  row-past kind slot k e s h = rw (eq-eqb row.kind 6 (sym k ∙ e), le-ltb row.left 24 (omega (arith, s)))

  pub row_changes : (kind slot limit word op v : ℕ) → kind ≡ row.kind → kind ≡ 6 → slot ≡ row.left → slot < 24 → word ≡ row.right → limit ≡ word → op ≡ row.extra
      → v ≡ by op limit (get_or figures slot 0) → set figures slot v ≡ limit_changes by row figures
  unfolding limit_changes
  row_changes kind slot limit word op v k e s h w l o r =
      rw (eq-eqb row.kind 6 (sym k ∙ e), lt-ltb row.left 24 (omega (arith, s)))
      (ap₂ (λ (x y : ℕ). set figures x y) s
      (r ∙ ap₂ (λ (x y : ℕ). by x y (get_or figures slot 0)) o (l ∙ w) ∙ ap (λ (x : ℕ). by row.extra row.right (get_or figures x 0)) s))

-- what the rows that are left make of the counts is what all make of the first ones
module _ (by : ℕ → ℕ → ℕ → ℕ) (rows : List ℕ) where
  rows_next : (i : ℕ) (figures : List ℕ) → i < length rows
      → limits_change by (drop i rows) figures ≡ limits_change by (drop (i + 1) rows) (limit_changes by (row_of (get_or rows i 0)) figures)
  unfolding limits_change
  rows_next i figures h = ap (λ (l : List ℕ). limits_change by l figures) (drop-at-place rows i 0 h) ∙ rows-first (get_or rows i 0) (drop (i + 1) rows) figures
    where
      rows-first : (number : ℕ) (rest figures : List ℕ) → limits_change by (number ∷ rest) figures ≡ limits_change by rest (limit_changes by (row_of number) figures)
      rows-first number rest figures = refl

  pub rows-turn : (i : ℕ) (first figures next : List ℕ) → i < length rows → limits_change by (drop i rows) figures ≡ limits_change by rows first
      → next ≡ limit_changes by (row_of (get_or rows i 0)) figures → limits_change by (drop (i + 1) rows) next ≡ limits_change by rows first
  rows-turn i first figures next h e f = ap (limits_change by (drop (i + 1) rows)) f ∙ sym (rows_next i figures h) ∙ e

  pub rows_end : (i : ℕ) (first figures : List ℕ) → length rows ≤ i → limits_change by (drop i rows) figures ≡ limits_change by rows first → figures ≡ limits_change by rows first
  unfolding limits_change
  rows_end i first figures h e = sym (ap (λ (l : List ℕ). limits_change by l figures) (drop_of_length-le rows h)) ∙ e
