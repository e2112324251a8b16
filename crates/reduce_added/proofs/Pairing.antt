-- The two pair stages, a law for each way through their functions.
use mathlib.Core.Path.{◌≡◌, refl, sym, ◌∙◌, ap}
use mathlib.Core.Bool.{Bool, true, false, cond, ◌&&◌}
use mathlib.Core.List.{List, [], ◌∷◌, ◌++◌, map, flat_map}
use Prim.Native.Nat.{ℕ, zero, suc, ◌+◌, ◌-◌, ◌≤◌, ◌<◌}
use native.Mathlib.Nat.{add-zero, add-suc}
use native.Mathlib.Decide.{ℕ_discrete}
use native.Mathlib.Numerals.{add-one}
use native.Mathlib.Omega.{arith}
use borrow.Author.Tests.{eq-eqb, ne_eqb}
use lib.Dec.{eqb}
use lib.ListN.{length, get_or, take, drop, set, length-drop, length-append, drop_of_length-le}
use lib.Seq.{drop-cons, take_all, sets, length-sets, get_or-set_same, get_or-set_other}
use Rattle.base_lists.proofs.Stores.{Stores, stores-part, take-sets, sets-append, each_at}
use Rattle.reduce_turn.specs.steps.Free.{Wrote}
use Rattle.day_rows.specs.Row.{row_of, row_number, plain_row}
use Rattle.day_rows.specs.declared.row.Row.{Row}
use Rattle.reduce_turn.specs.Turn.{kind_of, left_of, right_of}
use Rattle.reduce_added.specs.Pairs.{pair_row, pairs_of, mandatory_one, mandatory, mandatory_pairs}
use Rattle.reduce_added.specs.steps.Marks.{MarkedOne, Marked}
use Rattle.reduce_turn.proofs.Turning.{kind-is, kind-not}

pub pair-row-is : (left right : ℕ) {row : Row} {r : ℕ} → row ≡ plain_row 4 left right → r ≡ row_number row → r ≡ pair_row left right
unfolding pair_row
pair-row-is left right e q = q ∙ ap row_number e

-- the pairs of a list from place i on: that position with those after it, and the rest
pub pairs-at : (list : List ℕ) (i : ℕ) → i < length list
    → pairs_of (drop i list) ≡ map (pair_row (get_or list i 0)) (take (length list - (i + 1)) (drop (i + 1) list)) ++ pairs_of (drop (i + 1) list)
unfolding pairs_of
pairs-at list i h =
    rw (take_all (length list - (i + 1)) (drop (i + 1) list) (rw (length-drop (i + 1) list) (omega arith)))
    (rw (add-one i, drop-cons list i 0 h))

pub pairs-room : (list : List ℕ) (i : ℕ) → i < length list
    → length (map (pair_row (get_or list i 0)) (take (length list - (i + 1)) (drop (i + 1) list))) ≤ length (pairs_of (drop i list))
pairs-room list i h = rw (pairs-at list i h, length-append) (omega arith)

pub pairs-part : (list : List ℕ) (i : ℕ) {free₀ : List ℕ} {at₀ : ℕ} {l₀ free : List ℕ} {at : ℕ} {free' : List ℕ} {at' : ℕ} → i < length list
    → Stores free₀ at₀ l₀ free at (pairs_of (drop i list))
    → Wrote free at (map (pair_row (get_or list i 0)) (take (length list - (i + 1)) (drop (i + 1) list))) at' free'
    → Stores free₀ at₀ l₀ free' at' (pairs_of (drop (i + 1) list))
pairs-part list i h s w =
    stores-part (map (pair_row (get_or list i 0)) (take (length list - (i + 1)) (drop (i + 1) list))) (pairs_of (drop (i + 1) list))
    (rw (pairs-at list i h) at s) w.0 w.1

pub pairs_end : (list : List ℕ) (i : ℕ) → length list ≤ i → pairs_of (drop i list) ≡ []
unfolding pairs_of
pairs_end list i h = rw (drop_of_length-le list {i = i} h)

-- a row's choice is the chooser's, or isn't
module _ (chooser number : ℕ) {row : Row} (e : row ≡ row_of number) where
  pub listed-kind : (row.kind ≡ 11 → ⊥) → mandatory_one chooser number ≡ []
  unfolding mandatory_one
  listed-kind n = rw (ne_eqb (kind_of number) 11 (kind-not number e n))

  pub listed-chooser : row.kind ≡ 11 → (row.left ≡ chooser → ⊥) → mandatory_one chooser number ≡ []
  unfolding mandatory_one
  listed-chooser t n = rw (kind-is number e t, ne_eqb (left_of number) chooser (λ q. n (ap (λ (r : Row). r.left) e ∙ q)))

  pub listed : row.kind ≡ 11 → row.left ≡ chooser → mandatory_one chooser number ≡ row.right ∷ []
  unfolding mandatory_one
  listed t l =
      rw (kind-is number e t, eq-eqb (left_of number) chooser (sym (ap (λ (r : Row). r.left) e) ∙ l)) (ap (λ (r : Row). r.right ∷ []) (sym e))

-- a row gives at most one choice to a chooser's list
pub listed-most : (chooser number : ℕ) → length (mandatory_one chooser number) ≤ 1
unfolding mandatory_one
listed-most chooser number = go (eqb (kind_of number) 11 && eqb (left_of number) chooser)
  where
    go : (b : Bool) → length (cond b (right_of number ∷ []) []) ≤ 1
    go true = omega arith
    go false = omega arith

pub mandatory-most : (rows : List ℕ) (chooser : ℕ) → length (mandatory rows chooser) ≤ length rows
unfolding flat_map
mandatory-most [] chooser = omega arith
mandatory-most (number ∷ rows) chooser =
    rw (length-append (mandatory_one chooser number) (flat_map (mandatory_one chooser) rows)) (omega (arith, listed-most chooser number, mandatory-most rows chooser))

-- the pairs of the first choosers' lists, with one chooser more
module _ (rows : List ℕ) where
  pub choosers_le : (n m : ℕ) → n ≤ m → length (mandatory_pairs rows n) ≤ length (mandatory_pairs rows m)
  unfolding mandatory_pairs
  choosers_le n m h = up n (m - n) m (omega arith)
    where
      up : (n k m : ℕ) → m ≡ n + k → length (mandatory_pairs rows n) ≤ length (mandatory_pairs rows m)
      up n zero m e = rw e (rw add-zero (omega arith))
      up n (suc k) m e = rw e (rw (add-suc n k, length-append) (omega (arith, up n k (n + k) refl)))

  pub choosers-at : (chooser : ℕ) → mandatory_pairs rows (chooser + 1) ≡ mandatory_pairs rows chooser ++ pairs_of (mandatory rows chooser)
  unfolding mandatory_pairs
  choosers-at chooser = rw add-one

  choosers-count : (chooser choosers at : ℕ) → chooser < choosers → at ≡ 0 + length (mandatory_pairs rows chooser)
      → at + length (pairs_of (mandatory rows chooser)) ≤ length (mandatory_pairs rows choosers)
  choosers-count chooser choosers at h e =
      let k : length (mandatory_pairs rows (chooser + 1)) ≡ length (mandatory_pairs rows chooser) + length (pairs_of (mandatory rows chooser)) =
      ap length (choosers-at chooser) ∙ length-append (mandatory_pairs rows chooser) (pairs_of (mandatory rows chooser)) in
      omega (arith, choosers_le (chooser + 1) choosers (omega arith))

  pub choosers-countable : (chooser choosers at most : ℕ) → chooser < choosers → at ≡ 0 + length (mandatory_pairs rows chooser) → 0 + length (mandatory_pairs rows choosers) < most
      → at + length (pairs_of (mandatory rows chooser)) < most
  choosers-countable chooser choosers at most h e m = omega (arith, choosers-count chooser choosers at h e)

  pub choosers-none : (free : List ℕ) → Wrote free 0 (mandatory_pairs rows 0) 0 free
  unfolding mandatory_pairs
  choosers-none free = (refl, refl)

  pub choosers-part : (chooser at at' : ℕ) (free₀ free free' : List ℕ) → Wrote free₀ 0 (mandatory_pairs rows chooser) at free
      → Wrote free at (pairs_of (mandatory rows chooser)) at' free' → Wrote free₀ 0 (mandatory_pairs rows (chooser + 1)) at' free'
  choosers-part chooser at at' free₀ free free' w v =
      let e = choosers-at chooser in (
        rw (e, length-append) (omega (arith, v.0, w.0)),
        rw e (v.1 ∙ ap (λ (l : List ℕ). sets l at (pairs_of (mandatory rows chooser))) w.1
            ∙ ap (λ (n : ℕ). sets (sets free₀ 0 (mandatory_pairs rows chooser)) n (pairs_of (mandatory rows chooser))) w.0
            ∙ sym (sets-append free₀ 0 (mandatory_pairs rows chooser) (pairs_of (mandatory rows chooser)))),
      )

  -- the list that was read back is the chooser's
  module _ (chooser : ℕ) (list list' : List ℕ) (count : ℕ) (h : length rows ≤ length list) (w : Wrote list 0 (mandatory rows chooser) count list') where
    list_count : count ≡ length (mandatory rows chooser)
    list_count = omega (arith, w.0)

    pub list-is : take count list' ≡ mandatory rows chooser
    list-is = rw (list_count, w.1) (take-sets list (mandatory rows chooser) (omega (arith, mandatory-most rows chooser)))

    pub list-within : count ≤ length list'
    list-within = omega (arith, ap length w.1 ∙ length-sets list 0 (mandatory rows chooser), list_count, mandatory-most rows chooser)

    pub list_length : count ≡ length (take count list')
    list_length = list_count ∙ ap length (sym list-is)

    pub list-countable : (at most : ℕ) → at + length (pairs_of (mandatory rows chooser)) < most → at + length (pairs_of (take count list')) < most
    list-countable at most m = rw list-is m

    pub list_wrote : (at at' : ℕ) (free free' : List ℕ) → Wrote free at (pairs_of (take count list')) at' free' → Wrote free at (pairs_of (mandatory rows chooser)) at' free'
    list_wrote at at' free free' u = rw list-is at u

-- the ways through `mark_one`
module _ (number : ℕ) {row : Row} (e : row ≡ row_of number) (named : List ℕ) where
  pub mark_kind : (row.kind ≡ 11 → ⊥) → MarkedOne number named named
  mark_kind n = λ chooser h z. (z, listed-kind chooser number e n)

  pub mark_past : row.kind ≡ 11 → length named ≤ row.left → MarkedOne number named named
  mark_past t p = λ chooser h z. (z, listed-chooser chooser number e t (λ q. omega arith))

  pub mark_set : row.kind ≡ 11 → row.left < length named → MarkedOne number named (set named row.left 1)
  mark_set t p = λ chooser h z.
      elim (ℕ_discrete chooser row.left) [
        | yes q ↦ let w : ◌≡◌ {A = ℕ} 1 0 = sym (get_or-set_same named row.left 1 0 p) ∙ (rw q at z) in absurd (omega arith)
        | no n ↦ (sym (get_or-set_other named row.left chooser 1 0 n) ∙ z, listed-chooser chooser number e t (λ q. n (sym q)))
      ]

-- the loop over the rows: a chooser whose flag is zero has all its choices in the rows that are left
pub record Passed (rows named : List ℕ) (i : ℕ) : Type 0 where
  pub left : (chooser : ℕ) → chooser < length named → get_or named chooser 0 ≡ 0 → mandatory (drop i rows) chooser ≡ mandatory rows chooser

module _ (rows : List ℕ) where
  pub pass_step : (named named' : List ℕ) (i : ℕ) → i < length rows → length named' ≡ length named → MarkedOne (get_or rows i 0) named named' → Passed rows named i
      → Passed rows named' (i + 1)
  pass_step named named' i b l m p =
      record {
        left = λ chooser h z.
            let g : chooser < length named = omega arith in
            let o = m chooser g z in
            ap (λ (x : List ℕ). x ++ mandatory (drop (i + 1) rows) chooser) (sym o.1) ∙ sym (each_at (mandatory_one chooser) rows i 0 b) ∙ p.left chooser g o.0;
      }

  pub pass-end : (named : List ℕ) (i : ℕ) → length rows ≤ i → Passed rows named i → Marked rows named
  unfolding flat_map
  pass-end named i b p = λ chooser h z. sym (p.left chooser h z) ∙ rw (drop_of_length-le rows {i = i} b)

  -- a chooser whose flag is zero has no pairs
  pub unmarked-pairs : (named : List ℕ) (chooser : ℕ) → Marked rows named → (chooser < length named) × (get_or named chooser 0 ≡ 0) → pairs_of (mandatory rows chooser) ≡ []
  unfolding pairs_of
  unmarked-pairs named chooser m h = rw (m chooser h.0 h.1)
