-- Laws of the choice with which a row is decided: one for each way through the code.
use mathlib.Core.Path.{◌≡◌, sym, ◌∙◌, ap}
use mathlib.Core.List.{List}
use Prim.Native.Nat.{ℕ, ◌+◌, ◌≤◌, ◌<◌, max}
use native.Mathlib.Numerals.{add-one}
use native.Mathlib.Omega.{arith}
use borrow.Author.Tests.{lt-ltb, le-ltb, eq-eqb, ne_eqb}
use lib.ListN.{length, get_or, drop, drop_of_length-le}
use lib.Seq.{drop-cons}
use Rattle.day_rows.specs.Row.{row_of}
use Rattle.day_rows.specs.declared.row.Row.{Row}
use Rattle.list_decided.specs.steps.Decided.{never, with_slot, later_choice, last_of, front_of}

-- ---- kinds 1 and 2

pub slot-past : (slots choice slot : ℕ) → slots ≤ slot → never ≡ with_slot slots choice slot
unfolding with_slot
slot-past slots choice slot h = rw (le-ltb slot slots h)

pub slot_in_day : (slots choice slot : ℕ) → slot < slots → choice ≡ with_slot slots choice slot
unfolding with_slot
slot_in_day slots choice slot h = rw (lt-ltb slot slots h)

-- ---- kinds 3 to 5

pub later_same : (left right : ℕ) → left ≡ right → never ≡ later_choice left right
unfolding later_choice
later_same left right e = rw (eq-eqb left right e)

pub later_two : (left right r : ℕ) → (left ≡ right → ⊥) → r ≡ max left right → r ≡ later_choice left right
unfolding later_choice
later_two left right r n e = rw (ne_eqb left right n, e)

-- ---- by the kind

pub other-kind : {x k n : ℕ} → x ≡ k → (x ≡ n → ⊥) → k ≡ n → ⊥
other-kind e f g = f (e ∙ g)

module _ (slots : ℕ) (row : Row) where
  last-slot_1 : row.kind ≡ 1 → with_slot slots row.left row.right ≡ last_of slots row
  unfolding last_of
  last-slot_1 e = rw (eq-eqb row.kind 1 e)

  last-slot_2 : row.kind ≡ 2 → with_slot slots row.left row.right ≡ last_of slots row
  unfolding last_of
  last-slot_2 e = rw (eq-eqb row.kind 2 e, ne_eqb row.kind 1 (λ f. absurd (omega (arith, e, f))))

  last-pair_3 : row.kind ≡ 3 → later_choice row.left row.right ≡ last_of slots row
  unfolding last_of
  last-pair_3 e = rw (eq-eqb row.kind 3 e, ne_eqb row.kind 1 (λ f. absurd (omega (arith, e, f))), ne_eqb row.kind 2 (λ f. absurd (omega (arith, e, f))))

  last-pair_4 : row.kind ≡ 4 → later_choice row.left row.right ≡ last_of slots row
  unfolding last_of
  last-pair_4 e =
      rw (eq-eqb row.kind 4 e, ne_eqb row.kind 1 (λ f. absurd (omega (arith, e, f))), ne_eqb row.kind 2 (λ f. absurd (omega (arith, e, f))), ne_eqb row.kind 3 (λ f. absurd (omega (arith, e, f))))

  last-pair_5 : row.kind ≡ 5 → later_choice row.left row.right ≡ last_of slots row
  unfolding last_of
  last-pair_5 e =
      rw (eq-eqb row.kind 5 e, ne_eqb row.kind 1 (λ f. absurd (omega (arith, e, f))), ne_eqb row.kind 2 (λ f. absurd (omega (arith, e, f))), ne_eqb row.kind 3 (λ f. absurd (omega (arith, e, f))), ne_eqb row.kind 4 (λ f. absurd (omega (arith, e, f))))

  pub last-never : (row.kind ≡ 1 → ⊥) → (row.kind ≡ 2 → ⊥) → (row.kind ≡ 3 → ⊥) → (row.kind ≡ 4 → ⊥) → (row.kind ≡ 5 → ⊥) → never ≡ last_of slots row
  unfolding last_of
  last-never a b c d e = rw (ne_eqb row.kind 1 a, ne_eqb row.kind 2 b, ne_eqb row.kind 3 c, ne_eqb row.kind 4 d, ne_eqb row.kind 5 e)

  -- the columns as the code read them
  module _ (kind left right r : ℕ) (is-kind : kind ≡ row.kind) (is-left : left ≡ row.left) (is_right : right ≡ row.right) where
    slot_columns : r ≡ with_slot slots left right → r ≡ with_slot slots row.left row.right
    slot_columns e = e ∙ ap (λ l. with_slot slots l right) is-left ∙ ap (λ m. with_slot slots row.left m) is_right

    pair_columns : r ≡ later_choice left right → r ≡ later_choice row.left row.right
    pair_columns e = e ∙ ap (λ l. later_choice l right) is-left ∙ ap (λ m. later_choice row.left m) is_right

    pub last_in_slot : kind ≡ 1 → r ≡ with_slot slots left right → r ≡ last_of slots row
    last_in_slot k e = slot_columns e ∙ last-slot_1 (sym is-kind ∙ k)

    pub last-not_in_slot : kind ≡ 2 → r ≡ with_slot slots left right → r ≡ last_of slots row
    last-not_in_slot k e = slot_columns e ∙ last-slot_2 (sym is-kind ∙ k)

    pub last-same-slot : kind ≡ 3 → r ≡ later_choice left right → r ≡ last_of slots row
    last-same-slot k e = pair_columns e ∙ last-pair_3 (sym is-kind ∙ k)

    pub last-not-same-slot : kind ≡ 4 → r ≡ later_choice left right → r ≡ last_of slots row
    last-not-same-slot k e = pair_columns e ∙ last-pair_4 (sym is-kind ∙ k)

    pub last-offset : kind ≡ 5 → r ≡ later_choice left right → r ≡ last_of slots row
    last-offset k e = pair_columns e ∙ last-pair_5 (sym is-kind ∙ k)

-- ---- how many at the front: those passed, and those at the front of the rest, are the whole

module _ (slots choice : ℕ) (rows : List ℕ) (i last : ℕ) where
  pub front-passes : i < length rows → last ≡ last_of slots (row_of (get_or rows i 0)) → last ≡ choice → i + front_of slots choice (drop i rows) ≡ i + 1 + front_of slots choice (drop (i + 1) rows)
  unfolding front_of
  front-passes h e t = rw (add-one i, drop-cons rows i 0 h, eq-eqb (last_of slots (row_of (get_or rows i 0))) choice (sym e ∙ t)) (omega arith)

  pub front_ends : i < length rows → last ≡ last_of slots (row_of (get_or rows i 0)) → (last ≡ choice → ⊥) → i ≡ i + front_of slots choice (drop i rows)
  unfolding front_of
  front_ends h e t = rw (drop-cons rows i 0 h, ne_eqb (last_of slots (row_of (get_or rows i 0))) choice (λ g. t (e ∙ g))) (omega arith)

  pub front-whole : length rows ≤ i → i ≡ i + front_of slots choice (drop i rows)
  unfolding front_of
  front-whole h = rw (drop_of_length-le rows {i = i} h) (omega arith)
