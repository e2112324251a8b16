-- The turn stage, a law for each way through its functions.
use mathlib.Core.Path.{◌≡◌, refl, sym, ◌∙◌, ap}
use mathlib.Core.Bool.{Bool, true, false, cond, not}
use mathlib.Core.List.{List, [], ◌∷◌, flat_map}
use Prim.Native.Nat.{ℕ, ◌+◌, ◌≤◌, ◌<◌, min}
use native.Mathlib.Omega.{arith}
use borrow.Author.Tests.{ne_eqb, leb-true, leb-false}
use lib.Dec.{eqb, leb}
use lib.ListN.{length, take, length-append, length-take}
use lib.Seq.{take_all}
use Rattle.day_rows.specs.Row.{row_of}
use Rattle.day_rows.specs.declared.row.Row.{Row}
use Rattle.reduce_turn.specs.Turn.{kind_of, exchanged, turned_row, turned_one, turned_rows, clashes_at}
use Rattle.reduce_turn.specs.steps.Free.{Countable}

-- a row's columns are those of its number
module _ (number : ℕ) {row : Row} (e : row ≡ row_of number) where
  pub kind-is : {k : ℕ} → row.kind ≡ k → kind_of number ≡ k
  kind-is t = sym (ap (λ (r : Row). r.kind) e) ∙ t

  pub kind-not : {k : ℕ} → (row.kind ≡ k → ⊥) → kind_of number ≡ k → ⊥
  kind-not n t = n (ap (λ (r : Row). r.kind) e ∙ t)

  -- the turned row, by its kind
  pub turned_7 : {r : ℕ} → row.kind ≡ 7 → r ≡ exchanged 1 row → r ≡ turned_row number
  unfolding turned_row
  turned_7 t q = q ∙ ap (exchanged 1) e ∙ sym (rw (kind-is t))

  pub turned_8 : {r : ℕ} → row.kind ≡ 8 → r ≡ exchanged 2 row → r ≡ turned_row number
  unfolding turned_row
  turned_8 t q = q ∙ ap (exchanged 2) e ∙ sym (rw (kind-is t))

  pub turned_14 : {r : ℕ} → row.kind ≡ 14 → r ≡ exchanged 11 row → r ≡ turned_row number
  unfolding turned_row
  turned_14 t q = q ∙ ap (exchanged 11) e ∙ sym (rw (kind-is t))

  pub turned_15 : {r : ℕ} → row.kind ≡ 15 → r ≡ exchanged 12 row → r ≡ turned_row number
  unfolding turned_row
  turned_15 t q = q ∙ ap (exchanged 12) e ∙ sym (rw (kind-is t))

  pub turned-other : (row.kind ≡ 7 → ⊥) → (row.kind ≡ 8 → ⊥) → (row.kind ≡ 14 → ⊥) → (row.kind ≡ 15 → ⊥) → number ≡ turned_row number
  unfolding turned_row
  turned-other a b c d =
      sym (rw (ne_eqb (kind_of number) 7 (kind-not a), ne_eqb (kind_of number) 8 (kind-not b), ne_eqb (kind_of number) 14 (kind-not c), ne_eqb (kind_of number) 15 (kind-not d)))

  -- kind 9 is dropped, every other stays
  pub turned_none : row.kind ≡ 9 → turned_one number ≡ []
  unfolding turned_one
  turned_none t = rw (kind-is t)

  pub turned-some : {r : ℕ} → (row.kind ≡ 9 → ⊥) → r ≡ turned_row number → turned_one number ≡ r ∷ []
  unfolding turned_one
  turned-some n q = rw (ne_eqb (kind_of number) 9 (kind-not n), q)

  -- the clash flag of one row
  pub clash-not : (row.kind ≡ 9 → ⊥) → false ≡ clashes_at number
  unfolding clashes_at
  clash-not n = rw (ne_eqb (kind_of number) 9 (kind-not n))

  pub clash-slots : row.kind ≡ 9 → not (eqb row.left row.right) ≡ clashes_at number
  unfolding clashes_at
  clash-slots t = ap (λ (r : Row). not (eqb r.left r.right)) e ∙ sym (rw (kind-is t))

-- turned rows are no more than the rows
pub turned-most : (number : ℕ) → length (turned_one number) ≤ 1
unfolding turned_one
turned-most number = go (eqb (kind_of number) 9)
  where
    go : (b : Bool) → length (cond b [] (turned_row number ∷ [])) ≤ 1
    go true = omega arith
    go false = omega arith

pub turned-rows-most : (rows : List ℕ) → length (turned_rows rows) ≤ length rows
unfolding flat_map
turned-rows-most [] = omega arith
turned-rows-most (number ∷ rows) =
    rw (length-append (turned_one number) (turned_rows rows)) (omega (arith, turned-most number, turned-rows-most rows))

-- the first 128 rows, by how many of them there are
pub first_rows : (rows : List ℕ) (most : ℕ) → most ≡ min 128 (length rows) → take most rows ≡ take 128 rows
first_rows rows most e = go (leb 128 (length rows)) refl
  where
    go : (b : Bool) → leb 128 (length rows) ≡ b → take most rows ≡ take 128 rows
    go true t = let h : most ≡ 128 = omega (arith, leb-true 128 (length rows) t) in rw h
    go false t =
        let h : length rows < 128 = leb-false 128 (length rows) t in
        let all : length rows ≤ most = omega arith in
        let few : length rows ≤ 128 = omega arith in
        take_all most rows all ∙ sym (take_all 128 rows few)

-- the first 128 rows turned are few enough for their count to fit
pub first-countable : (rows : List ℕ) (most : ℕ) → most ≡ min 128 (length rows) → Countable 0 (turned_rows (take most rows))
first-countable rows most e =
    let l : length (take most rows) ≤ most = rw length-take (omega arith) in
    omega (arith, turned-rows-most (take most rows))

pub first-length : (rows : List ℕ) (most : ℕ) → most ≡ min 128 (length rows) → most ≡ length (take most rows)
first-length rows most e = rw length-take (omega arith)

pub first-most : (rows : List ℕ) (most count : ℕ) → most ≡ min 128 (length rows) → count ≡ 0 + length (turned_rows (take most rows)) → count ≤ 128
first-most rows most count e c =
    let l : length (take most rows) ≤ most = rw length-take (omega arith) in
    omega (arith, turned-rows-most (take most rows))
