-- Each case of what a row says of a place: the other choice's decision, the op, the kind.
use mathlib.Core.Path.{◌≡◌, refl, sym, ◌∙◌}
use mathlib.Core.Bool.{Bool, true, false, not}
use mathlib.Core.List.{List, [], ◌∷◌}
use Prim.Native.Nat.{ℕ, ◌+◌, ◌-◌, ◌≤◌, ◌<◌}
use native.Mathlib.Decide.{ℕ_discrete}
use native.Mathlib.Nat.{add-zero}
use native.Mathlib.Numerals.{add-one}
use native.Mathlib.Omega.{arith}
use borrow.Author.Tests.{lt-ltb, le-ltb, lt-leb, le-leb, eq-eqb, ne_eqb, ltb-true, ltb-false}
use lib.Dec.{eqb, ltb, leb}
use lib.ListN.{length, get_or, get_or-eq_default}
use Rattle.base_lists.specs.Below.{one}
use Rattle.base_lists.proofs.Lists.{get_d_any}
use Rattle.day_rows.specs.Op.{eq_op, leq_op, lt_op}
use Rattle.day_rows.specs.Row.{row_of}
use Rattle.day_rows.specs.declared.row.Row.{Row}
use Rattle.plan_check.specs.Plan.{slot_of, omitted}
use Rattle.plan_check.specs.Rows.{op_holds, slots_differ, offset_kept}
use Rattle.search_candidates.specs.Allow.{undecided, decision_of, is_undecided, ends_keep, pair_allows, room_for, room_allows, row_allows, limit_holds}

-- past the list's end a choice is undecided; within it the byte decides
module _ (decisions : List ℕ) (choice : ℕ) where
  pub decision_past : length decisions ≤ choice → undecided ≡ decision_of decisions choice
  unfolding decision_of
  decision_past h = sym (get_or-eq_default decisions undecided h)

  pub decision_at : choice < length decisions → get_or decisions choice 0 ≡ decision_of decisions choice
  unfolding decision_of
  decision_at h = get_d_any decisions choice 0 undecided h

-- two places: left omitted, right alone omitted, both scheduled
module _ (left right : ℕ) where
  pub ends-out : left ≡ 255 → slots_differ (left ∷ right ∷ []) 0 1 ≡ true
  unfolding slots_differ omitted slot_of
  ends-out l = rw (eq-eqb _ _ l)

  pub ends_in : (left ≡ 255 → ⊥) → slots_differ (left ∷ right ∷ []) 0 1 ≡ not (eqb left right)
  unfolding slots_differ omitted slot_of
  ends_in l = rw (ne_eqb _ _ l)

  pub offset-left-out : (extra : ℕ) → left ≡ 255 → offset_kept (left ∷ right ∷ []) 0 1 extra ≡ eqb right 255
  unfolding offset_kept omitted slot_of
  offset-left-out extra l = rw (eq-eqb _ _ l)

  pub offset-right-out : (extra : ℕ) → (left ≡ 255 → ⊥) → right ≡ 255 → offset_kept (left ∷ right ∷ []) 0 1 extra ≡ false
  unfolding offset_kept omitted slot_of
  offset-right-out extra l r = rw (ne_eqb _ _ l, eq-eqb _ _ r)

  pub offset-both : (extra : ℕ) → (left ≡ 255 → ⊥) → (right ≡ 255 → ⊥) → offset_kept (left ∷ right ∷ []) 0 1 extra ≡ eqb (right + 32768) (left + extra)
  unfolding offset_kept omitted slot_of
  offset-both extra l r = rw (ne_eqb _ _ l, ne_eqb _ _ r)

-- what a call read is none of what it was not found to be
pub none_of : {read column code : ℕ} → read ≡ column → (read ≡ code → ⊥) → column ≡ code → ⊥
none_of e n c = n (e ∙ c)

-- the kind decides what two places must keep
module _ (row : Row) (left right : ℕ) where
  pub keep_same : row.kind ≡ 3 → ends_keep row left right ≡ eqb left right
  unfolding ends_keep
  keep_same e = rw e

  pub keep_differ : row.kind ≡ 4 → ends_keep row left right ≡ slots_differ (left ∷ right ∷ []) 0 1
  unfolding ends_keep
  keep_differ e = rw e

  pub keep-offset : row.kind ≡ 5 → ends_keep row left right ≡ offset_kept (left ∷ right ∷ []) 0 1 row.extra
  unfolding ends_keep
  keep-offset e = rw e

  pub keep-none : (row.kind ≡ 3 → ⊥) → (row.kind ≡ 4 → ⊥) → (row.kind ≡ 5 → ⊥) → ends_keep row left right ≡ false
  unfolding ends_keep
  keep-none a b c = simp (ne_eqb _ _ a, ne_eqb _ _ b, ne_eqb _ _ c)

-- the other choice: left, unless left is this one; undecided it allows, decided it is compared
module _ (decisions : List ℕ) (choice place : ℕ) (row : Row) where
  pub pair-left_open : (row.left ≡ choice → ⊥) → decision_of decisions row.left ≡ undecided → pair_allows decisions choice place row ≡ true
  unfolding pair_allows is_undecided
  pair-left_open n u = rw (ne_eqb _ _ n, eq-eqb _ _ u)

  pub pair_left : (other : ℕ) → other ≡ decision_of decisions row.left → (row.left ≡ choice → ⊥) → (other ≡ undecided → ⊥)
      → ends_keep row other place ≡ pair_allows decisions choice place row
  unfolding pair_allows is_undecided
  pair_left other d n u = rw (sym d, ne_eqb _ _ n, ne_eqb _ _ u)

  pub pair-right_open : row.left ≡ choice → decision_of decisions row.right ≡ undecided → pair_allows decisions choice place row ≡ true
  unfolding pair_allows is_undecided
  pair-right_open e u = rw (eq-eqb _ _ e, eq-eqb _ _ u)

  pub pair-right : (other : ℕ) → other ≡ decision_of decisions row.right → row.left ≡ choice → (other ≡ undecided → ⊥)
      → ends_keep row place other ≡ pair_allows decisions choice place row
  unfolding pair_allows is_undecided
  pair-right other d e u = rw (sym d, eq-eqb _ _ e, ne_eqb _ _ u)

-- one more fits under the limit exactly if the count is below it
pub below-limit : (count limit : ℕ) → leb (count + 1) limit ≡ ltb count limit
below-limit count limit = rw (add-one count)

pub two-below : (count limit : ℕ) → leb (count + 1) (limit - 1) ≡ ltb (count + 1) limit
two-below count limit = go (ltb (count + 1) limit) refl
  where
    go : (b : Bool) → ltb (count + 1) limit ≡ b → leb (count + 1) (limit - 1) ≡ b
    go true t =
        let h = ltb-true (count + 1) limit t in
        le-leb (count + 1) (limit - 1) (omega arith)
    go false t =
        let h = ltb-false (count + 1) limit t in
        lt-leb (count + 1) (limit - 1) (omega arith)

-- the op decides what room is asked
module _ (op count limit : ℕ) where
  pub room_eq : op ≡ eq_op → room_for op count limit ≡ ltb count limit
  unfolding room_for
  room_eq e = rw e (below-limit count limit)

  pub room_leq : op ≡ leq_op → room_for op count limit ≡ ltb count limit
  unfolding room_for
  room_leq e = rw e (below-limit count limit)

  pub room_lt : op ≡ lt_op → room_for op count limit ≡ ltb (count + 1) limit
  unfolding room_for
  room_lt e = rw e (two-below count limit)

  pub room-other : (op ≡ eq_op → ⊥) → (op ≡ leq_op → ⊥) → (op ≡ lt_op → ⊥) → room_for op count limit ≡ true
  unfolding room_for
  room-other a b c = simp (ne_eqb _ _ a, ne_eqb _ _ b, ne_eqb _ _ c)

-- past the limit every count compares alike
pub past-limit : (op count more limit : ℕ) → limit < count → limit < more → op_holds op count limit ≡ op_holds op more limit
unfolding op_holds
past-limit op count more limit h k =
    let a : count ≡ limit → ⊥ = λ e. omega arith in
    let b : more ≡ limit → ⊥ = λ e. omega arith in
    let c : limit ≤ count = omega arith in
    let d : limit ≤ more = omega arith in
    simp (ne_eqb _ _ a, ne_eqb _ _ b, lt-ltb _ _ h, lt-ltb _ _ k, le-ltb _ _ c, le-ltb _ _ d, le-leb _ _ c, le-leb _ _ d, lt-leb _ _ h, lt-leb _ _ k)

-- a limit is asked of its own slot alone
module _ (sizes : ℕ → ℕ) (place : ℕ) (row : Row) where
  pub room-elsewhere : (place ≡ row.left → ⊥) → room_allows sizes place row ≡ true
  unfolding room_allows
  room-elsewhere n = rw (ne_eqb _ _ n)

  pub room_tried : place ≡ row.left → room_allows sizes place row ≡ room_for row.extra (sizes row.left) row.right
  unfolding room_allows
  room_tried e = rw (eq-eqb _ _ e)

  -- the full test: another kind, the tried slot, another slot
  pub limit-six : row.kind ≡ 6 → limit_holds sizes place row ≡ op_holds row.extra (sizes row.left + one (eqb place row.left)) row.right
  unfolding limit_holds
  limit-six k = rw k

  pub limit-none : (row.kind ≡ 6 → ⊥) → limit_holds sizes place row ≡ true
  unfolding limit_holds
  limit-none n = rw (ne_eqb _ _ n)

  pub limit_tried : row.kind ≡ 6 → place ≡ row.left → limit_holds sizes place row ≡ op_holds row.extra (sizes row.left + 1) row.right
  unfolding limit_holds one
  limit_tried k e = rw (k, eq-eqb _ _ e)

  pub limit-elsewhere : row.kind ≡ 6 → (place ≡ row.left → ⊥) → limit_holds sizes place row ≡ op_holds row.extra (sizes row.left) row.right
  unfolding limit_holds one
  limit-elsewhere k n = rw (k, ne_eqb _ _ n, add-zero (sizes row.left))

-- the kind decides the sentence
module _ (decisions : List ℕ) (sizes : ℕ → ℕ) (choice place : ℕ) (row : Row) where
  pub allows_in_slot : row.kind ≡ 1 → row_allows decisions sizes choice place row ≡ eqb place row.right
  unfolding row_allows
  allows_in_slot e = rw e

  pub allows-not_in_slot : row.kind ≡ 2 → row_allows decisions sizes choice place row ≡ not (eqb place row.right)
  unfolding row_allows
  allows-not_in_slot e = rw e

  pub allows-same-slot : row.kind ≡ 3 → row_allows decisions sizes choice place row ≡ pair_allows decisions choice place row
  unfolding row_allows
  allows-same-slot e = rw e

  pub allows-not-same-slot : row.kind ≡ 4 → row_allows decisions sizes choice place row ≡ pair_allows decisions choice place row
  unfolding row_allows
  allows-not-same-slot e = rw e

  pub allows-offset : row.kind ≡ 5 → row_allows decisions sizes choice place row ≡ pair_allows decisions choice place row
  unfolding row_allows
  allows-offset e = rw e

  pub allows-pair : 3 ≤ row.kind → row.kind ≤ 5 → row_allows decisions sizes choice place row ≡ pair_allows decisions choice place row
  allows-pair from to =
      elim (ℕ_discrete row.kind 3) [
        | yes k ↦ allows-same-slot k
        | no a ↦ elim (ℕ_discrete row.kind 4) [
          | yes k ↦ allows-not-same-slot k
          | no b ↦ allows-offset (omega (arith, a, b))
        ]
      ]

  pub allows_limited_size : row.kind ≡ 6 → row_allows decisions sizes choice place row ≡ room_allows sizes place row
  unfolding row_allows
  allows_limited_size e = rw e

  pub allows_no_other : (row.kind ≡ 1 → ⊥) → (row.kind ≡ 2 → ⊥) → (row.kind ≡ 3 → ⊥) → (row.kind ≡ 4 → ⊥) → (row.kind ≡ 5 → ⊥) → (row.kind ≡ 6 → ⊥)
      → row_allows decisions sizes choice place row ≡ false
  unfolding row_allows
  allows_no_other a b c d e f =
      simp (ne_eqb _ _ a, ne_eqb _ _ b, ne_eqb _ _ c, ne_eqb _ _ d, ne_eqb _ _ e, ne_eqb _ _ f)

  -- the code's tests of a range: from 1 to below 6 and neither 1 nor 2, or below it, or above it and not 6
  pub allows-between : 1 ≤ row.kind → row.kind < 6 → (row.kind ≡ 1 → ⊥) → (row.kind ≡ 2 → ⊥)
      → row_allows decisions sizes choice place row ≡ pair_allows decisions choice place row
  allows-between from to a b = allows-pair (omega (arith, a, b)) (omega arith)

  pub allows-none-below : row.kind < 1 → row_allows decisions sizes choice place row ≡ false
  allows-none-below h =
      allows_no_other (λ e. omega arith) (λ e. omega arith) (λ e. omega arith) (λ e. omega arith) (λ e. omega arith) λ e. omega arith

  pub allows-none-above : 5 < row.kind → (row.kind ≡ 6 → ⊥) → row_allows decisions sizes choice place row ≡ false
  allows-none-above h f =
      allows_no_other (λ e. omega arith) (λ e. omega arith) (λ e. omega arith) (λ e. omega arith) (λ e. omega arith) f

-- a number past the rows names a row of kind 0, which allows no place
pub past-rows : (rows : List ℕ) (number : ℕ) (decisions : List ℕ) (sizes : ℕ → ℕ) (choice place : ℕ) → length rows ≤ number
    → row_allows decisions sizes choice place (row_of (get_or rows number 0)) ≡ false
unfolding row_allows row_of
past-rows rows number decisions sizes choice place h = rw (get_or-eq_default rows 0 h)
