-- A row and its number: there and back, and the order of the numbers is 01's order of the rows.
use mathlib.Core.Path.{◌≡◌, refl, ◌∙◌, ap}
use mathlib.Core.Bool.{Bool, true, false, ◌&&◌, ◌||◌, not}
use Prim.Native.Nat.{ℕ, ◌+◌, ◌*◌, ◌^◌, ◌<◌}
use native.Mathlib.Nat.{mul-le-mul_right, suc-mul}
use native.Mathlib.Omega.{arith}
use borrow.Author.Tests.{lt-ltb, le-ltb, ltb-true, ltb-false}
use lib.Dec.{ltb}
use Rattle.base_lists.proofs.Below.{same_test}
use Rattle.day_rows.proofs.SignedLaws.{signed_order}
use Rattle.day_rows.specs.Row.{row_of, row_number, signed_columns, earlier}
use Rattle.day_rows.specs.declared.row.Row.{Row}

-- the three lower columns fit sixteen bits; every row that code holds does
pub record Fits (row : Row) : Type 0 where
  pub left : row.left < 2 ^ 16
  pub right : row.right < 2 ^ 16
  pub extra : row.extra < 2 ^ 16

-- each number is the number of its row
pub number_of-row : (n : ℕ) → row_number (row_of n) ≡ n
unfolding row_number row_of
number_of-row n = omega arith

-- rows with equal columns are equal
abbrev made : ℕ → ℕ → ℕ → ℕ → Row
made kind left right extra = record { kind = kind; left = left; right = right; extra = extra }

columns_equal : {k k' l l' r r' e e' : ℕ} → k ≡ k' → l ≡ l' → r ≡ r' → e ≡ e' → made k l r e ≡ made k' l' r' e'
columns_equal p q s t = rw (p, q, s, t)

-- each row whose columns fit is the row of its number
pub row_of-number : (row : Row) → Fits row → row_of (row_number row) ≡ row
unfolding row_number row_of
row_of-number row f = columns_equal (omega arith) (omega arith) (omega arith) (omega arith)

-- the row of a number of 64 bits fits
pub row_fits : (n : ℕ) → Fits (row_of n)
unfolding row_of
row_fits n = record { left = omega arith; right = omega arith; extra = omega arith }

-- two numbers, each a head and a rest under the width: the heads decide, and the rests where the heads agree
head-decides : (w x y a b : ℕ) → a < w → b < w → ltb (x * w + a) (y * w + b) ≡ (ltb x y || (not (ltb y x) && ltb a b))
head-decides w x y a b ha hb = go (ltb x y) refl (ltb y x) refl
  where
    go : (p : Bool) → ltb x y ≡ p → (q : Bool) → ltb y x ≡ q → ltb (x * w + a) (y * w + b) ≡ (p || (not q && ltb a b))
    go true e q f = lt-ltb (x * w + a) (y * w + b) (omega (arith, rw suc-mul at (mul-le-mul_right w (ltb-true x y e))))
    go false e true f = le-ltb (x * w + a) (y * w + b) (omega (arith, rw suc-mul at (mul-le-mul_right w (ltb-true y x f))))
    go false e false f =
        let same : x ≡ y = omega (arith, ltb-false x y e, ltb-false y x f) in
        rw same (same_test (y * w + a) (y * w + b) a b (λ h. omega arith) (λ h. omega arith))

-- two rows' order by their last columns alone
last-decides : (p q : Bool) → p ≡ (p || (not q && false))
last-decides true q = refl
last-decides false true = refl
last-decides false false = refl

-- the columns after the kind, and after the left
abbrev after-kind : Row → ℕ
after-kind row = row.left * 2 ^ 32 + (row.right * 2 ^ 16 + row.extra)

abbrev after-left : Row → ℕ
after-left row = row.right * 2 ^ 16 + row.extra

by_columns : (row : Row) → row_number row ≡ row.kind * 2 ^ 48 + after-kind row
unfolding row_number
by_columns row = omega arith

-- 'All rows sort by (kind, left, right, extra) as signed numbers': that is the order of their numbers
pub order : (a b : Row) → Fits a → Fits b → ltb (row_number a) (row_number b) ≡ earlier (signed_columns a) (signed_columns b)
unfolding signed_columns earlier
order a b fa fb =
    rw (by_columns a, by_columns b, signed_order a.extra b.extra, signed_order b.extra a.extra)
    (head-decides (2 ^ 48) a.kind b.kind (after-kind a) (after-kind b) (omega (arith, fa)) (omega (arith, fb))
    ∙ ap (λ (t : Bool). ltb a.kind b.kind || (not (ltb b.kind a.kind) && t))
    (head-decides (2 ^ 32) a.left b.left (after-left a) (after-left b) (omega (arith, fa)) (omega (arith, fb))
    ∙ ap (λ (t : Bool). ltb a.left b.left || (not (ltb b.left a.left) && t))
    (head-decides (2 ^ 16) a.right b.right a.extra b.extra fa.extra fb.extra
    ∙ ap (λ (t : Bool). ltb a.right b.right || (not (ltb b.right a.right) && t))
    (last-decides (ltb a.extra b.extra) (ltb b.extra a.extra)))))
