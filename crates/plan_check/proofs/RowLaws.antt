-- Rows: each case of an op, of an offset, and of a row's kind.
use mathlib.Core.Path.{◌≡◌, refl, sym, ◌∙◌, ap}
use mathlib.Core.Bool.{Bool, true, false, ◌&&◌, not}
use mathlib.Core.List.{List, [], ◌∷◌}
use Prim.Native.Nat.{ℕ, suc, ◌+◌, ◌-◌, ◌≤◌, ◌<◌}
use native.Mathlib.Omega.{arith}
use borrow.Author.Tests.{eq-eqb, ne_eqb}
use lib.Dec.{eqb, ltb, leb}
use lib.ListN.{length, get_or, take}
use lib.Seq.{take-suc, take-length}
use Rattle.base_lists.specs.All.{all_of}
use Rattle.base_lists.proofs.All.{all_append}
use Rattle.day_rows.specs.Op.{eq_op, gt_op, geq_op, neq_op, leq_op, lt_op}
use Rattle.day_rows.specs.Row.{row_of}
use Rattle.day_rows.specs.declared.row.Row.{Row}
use Rattle.plan_check.specs.Plan.{slot_of, omitted, count_in}
use Rattle.plan_check.specs.Rows.{op_holds, slots_differ, offset_kept, keeps_row, keeps_rows}
use Rattle.plan_check.proofs.PlanLaws.{is-omitted, not-omitted}

-- the op decides the comparison
module _ (op count limit : ℕ) where
  pub op_eq : op ≡ eq_op → op_holds op count limit ≡ eqb count limit
  unfolding op_holds
  op_eq e = rw e

  pub op_neq : op ≡ neq_op → op_holds op count limit ≡ not (eqb count limit)
  unfolding op_holds
  op_neq e = rw e

  pub op_gt : op ≡ gt_op → op_holds op count limit ≡ ltb limit count
  unfolding op_holds
  op_gt e = rw e

  pub op_lt : op ≡ lt_op → op_holds op count limit ≡ ltb count limit
  unfolding op_holds
  op_lt e = rw e

  pub op_geq : op ≡ geq_op → op_holds op count limit ≡ leb limit count
  unfolding op_holds
  op_geq e = rw e

  pub op_leq : op ≡ leq_op → op_holds op count limit ≡ leb count limit
  unfolding op_holds
  op_leq e = rw e

  pub op_other : (op ≡ eq_op → ⊥) → (op ≡ neq_op → ⊥) → (op ≡ gt_op → ⊥) → (op ≡ lt_op → ⊥) → (op ≡ geq_op → ⊥) → (op ≡ leq_op → ⊥)
      → op_holds op count limit ≡ false
  unfolding op_holds
  op_other a b c d e f =
      simp (ne_eqb _ _ a, ne_eqb _ _ b, ne_eqb _ _ c, ne_eqb _ _ d, ne_eqb _ _ e, ne_eqb _ _ f)

-- two choices in different slots: left omitted, or the bytes compared
module _ (plan : List ℕ) (left right : ℕ) where
  pub differ_out : slot_of plan left ≡ 255 → slots_differ plan left right ≡ true
  unfolding slots_differ
  differ_out l = rw (is-omitted plan left l)

  pub differ_in : (slot_of plan left ≡ 255 → ⊥) → slots_differ plan left right ≡ not (eqb (slot_of plan left) (slot_of plan right))
  unfolding slots_differ
  differ_in l = rw (not-omitted plan left l)

-- the offset: left omitted, right alone omitted, both scheduled
module _ (plan : List ℕ) (left right extra : ℕ) where
  pub offset-left-out : slot_of plan left ≡ 255 → offset_kept plan left right extra ≡ eqb (slot_of plan right) 255
  unfolding offset_kept omitted
  offset-left-out l = rw (eq-eqb _ _ l)

  pub offset-right-out : (slot_of plan left ≡ 255 → ⊥) → slot_of plan right ≡ 255 → offset_kept plan left right extra ≡ false
  unfolding offset_kept
  offset-right-out l r = rw (not-omitted plan left l, is-omitted plan right r)

  pub offset-both : (slot_of plan left ≡ 255 → ⊥) → (slot_of plan right ≡ 255 → ⊥)
      → offset_kept plan left right extra ≡ eqb (slot_of plan right + 32768) (slot_of plan left + extra)
  unfolding offset_kept
  offset-both l r = rw (not-omitted plan left l, not-omitted plan right r)

-- a row's kind decides its sentence
module _ (plan : List ℕ) (row : Row) where
  pub keeps_in_slot : row.kind ≡ 1 → keeps_row plan row ≡ eqb (slot_of plan row.left) row.right
  unfolding keeps_row
  keeps_in_slot e = rw e

  pub keeps-not_in_slot : row.kind ≡ 2 → keeps_row plan row ≡ not (eqb (slot_of plan row.left) row.right)
  unfolding keeps_row
  keeps-not_in_slot e = rw e

  pub keeps-same-slot : row.kind ≡ 3 → keeps_row plan row ≡ eqb (slot_of plan row.left) (slot_of plan row.right)
  unfolding keeps_row
  keeps-same-slot e = rw e

  pub keeps-not-same-slot : row.kind ≡ 4 → keeps_row plan row ≡ slots_differ plan row.left row.right
  unfolding keeps_row
  keeps-not-same-slot e = rw e

  pub keeps-offset-row : row.kind ≡ 5 → keeps_row plan row ≡ offset_kept plan row.left row.right row.extra
  unfolding keeps_row
  keeps-offset-row e = rw e

  pub keeps_limited_size : row.kind ≡ 6 → keeps_row plan row ≡ op_holds row.extra (count_in plan row.left) row.right
  unfolding keeps_row
  keeps_limited_size e = rw e

  pub keeps_no_other : (row.kind ≡ 1 → ⊥) → (row.kind ≡ 2 → ⊥) → (row.kind ≡ 3 → ⊥) → (row.kind ≡ 4 → ⊥) → (row.kind ≡ 5 → ⊥) → (row.kind ≡ 6 → ⊥)
      → keeps_row plan row ≡ false
  unfolding keeps_row
  keeps_no_other a b c d e f =
      simp (ne_eqb _ _ a, ne_eqb _ _ b, ne_eqb _ _ c, ne_eqb _ _ d, ne_eqb _ _ e, ne_eqb _ _ f)

-- the loop over the rows, last row first: what is left of the list decides
module _ (plan rows : List ℕ) where
  pub RowsLeft : ℕ → Type 0
  RowsLeft left = keeps_rows plan rows ≡ keeps_rows plan (take left rows)

  pub rows_start : RowsLeft (length rows)
  unfolding RowsLeft
  rows_start = ap (keeps_rows plan) (sym (take-length rows))

  -- the last row, and those before it
  last_row : (i : ℕ) → i < length rows → keeps_rows plan (take (suc i) rows) ≡ (keeps_rows plan (take i rows) && (keeps_row plan (row_of (get_or rows i 0)) && true))
  unfolding keeps_rows all_of
  last_row i h = rw (take-suc rows i 0 h) (all_append (λ number. keeps_row plan (row_of number)) (take i rows) (get_or rows i 0 ∷ []))

  from_last : (left : ℕ) → 0 < left → left ≤ length rows → RowsLeft left
      → keeps_rows plan rows ≡ (keeps_rows plan (take (left - 1) rows) && (keeps_row plan (row_of (get_or rows (left - 1) 0)) && true))
  unfolding RowsLeft
  from_last left h l f =
      let e : left ≡ suc (left - 1) = omega arith in
      f ∙ ap (λ (n : ℕ). keeps_rows plan (take n rows)) e ∙ last_row (left - 1) (omega arith)

  pub rows_next : (left : ℕ) → 0 < left → left ≤ length rows → RowsLeft left → keeps_row plan (row_of (get_or rows (left - 1) 0)) ≡ true → RowsLeft (left - 1)
  unfolding RowsLeft
  rows_next left h l f t =
      from_last left h l f ∙ ap (λ (b : Bool). keeps_rows plan (take (left - 1) rows) && (b && true)) t ∙ and_kept (keeps_rows plan (take (left - 1) rows))
    where
      and_kept : (b : Bool) → (b && (true && true)) ≡ b
      and_kept true = refl
      and_kept false = refl

  pub rows-broken : (left : ℕ) → 0 < left → left ≤ length rows → RowsLeft left → keeps_row plan (row_of (get_or rows (left - 1) 0)) ≡ false → keeps_rows plan rows ≡ false
  rows-broken left h l f t =
      from_last left h l f ∙ ap (λ (b : Bool). keeps_rows plan (take (left - 1) rows) && (b && true)) t ∙ and_broken (keeps_rows plan (take (left - 1) rows))
    where
      and_broken : (b : Bool) → (b && (false && true)) ≡ false
      and_broken true = refl
      and_broken false = refl

  pub rows-kept : (left : ℕ) → left ≤ 0 → RowsLeft left → keeps_rows plan rows ≡ true
  unfolding RowsLeft keeps_rows all_of
  rows-kept left h f =
      let e : left ≡ 0 = omega arith in
      f ∙ ap (λ (n : ℕ). keeps_rows plan (take n rows)) e
