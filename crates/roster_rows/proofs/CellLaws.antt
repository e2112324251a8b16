-- The cells of a chooser, and the loops over them.
use mathlib.Core.Path.{◌≡◌, ap}
use mathlib.Core.Bool.{Bool, true, false}
use mathlib.Core.List.{List, [], ◌∷◌}
use Prim.Native.Nat.{ℕ, suc, ◌+◌, ◌*◌, ◌-◌, ◌≤◌, ◌<◌}
use native.Mathlib.Nat.{mul-le-mul_right}
use native.Mathlib.Numerals.{add-one}
use native.Mathlib.Omega.{arith}
use lib.Dec.{eqb}
use lib.ListN.{length, get_or, take, drop, length-take, length-drop, drop_of_length-le}
use lib.Seq.{take-nil, drop-cons, length-take-le}
use Rattle.base_lists.specs.Below.{one}
use Rattle.base_lists.specs.Group.{times_in}
use Rattle.base_lists.specs.Pool.{window}
use Rattle.roster_rows.specs.Cells.{cells_of}
use Rattle.roster_rows.specs.steps.Shapes.{Seated}

module _ (slots : ℕ) (roster : List ℕ) (chooser : ℕ) where
  -- a chooser has never more than S cells
  pub cells-few : length (cells_of slots roster chooser) ≤ slots
  unfolding cells_of window
  cells-few = rw (length-take slots (drop (chooser * slots) roster)) (omega arith)

  pub cells-short : {cells : List ℕ} → cells ≡ cells_of slots roster chooser → slots ≤ 24 → length cells ≤ 24
  cells-short e h = rw e (omega (arith, cells-few, h))

  pub cells-part : take (chooser * slots + slots - chooser * slots) (drop (chooser * slots) roster) ≡ cells_of slots roster chooser
  unfolding cells_of window
  cells-part =
      let e : chooser * slots + slots - chooser * slots ≡ slots = omega arith in
      ap (λ (n : ℕ). take n (drop (chooser * slots) roster)) e

  module _ (choosers : ℕ) (k : Seated slots choosers roster) where
    -- a chooser past the last has no cells
    pub cells-past : choosers ≤ chooser → [] ≡ cells_of slots roster chooser
    unfolding cells_of window
    cells-past h =
        let e : length roster ≤ chooser * slots = omega (arith, k.cells, mul-le-mul_right slots h) in
        rw (drop_of_length-le roster {i = chooser * slots} e, take-nil slots)

    -- the cells of a chooser that there is end within the roster
    pub cells-end : chooser < choosers → chooser * slots + slots ≤ length roster
    cells-end h =
        let m : suc chooser * slots ≤ choosers * slots = mul-le-mul_right slots h in
        omega (arith, k.cells, m)

    pub cells-small : chooser < choosers → chooser * slots + slots ≤ 4800
    cells-small h =
        let m : choosers * slots ≤ 200 * slots = mul-le-mul_right slots k.few-choosers in
        omega (arith, cells-end h, k.cells, k.few-slots, m)

    pub cells-many : chooser < choosers → length (cells_of slots roster chooser) ≡ slots
    unfolding cells_of window
    cells-many h = length-take-le slots (drop (chooser * slots) roster) (rw length-drop (omega (arith, cells-end h)))

-- how often a number stands in what is left of a list
module _ (x : ℕ) (l : List ℕ) where
  pub times_next : (i : ℕ) → i < length l → times_in x (drop i l) ≡ one (eqb x (get_or l i 0)) + times_in x (drop (i + 1) l)
  unfolding times_in
  times_next i h = rw (add-one i, drop-cons l i 0 h)

  pub times_end : (i : ℕ) → length l ≤ i → times_in x (drop i l) ≡ 0
  unfolding times_in
  times_end i h = rw (drop_of_length-le l {i = i} h)

-- a number stands in a list no more often than there are entries
pub times_le : (x : ℕ) (l : List ℕ) → times_in x l ≤ length l
unfolding times_in one
times_le x [] = omega arith
times_le x (y ∷ l) = go (eqb x y) (times_le x l)
  where
    go : (b : Bool) → times_in x l ≤ length l → one b + times_in x l ≤ suc (length l)
    go true h = omega arith
    go false h = omega arith

-- the most cells that a roster may have
pub few-cells : (slots choosers : ℕ) → slots ≤ 24 → choosers ≤ 200 → choosers * slots ≤ 4800
few-cells slots choosers s h =
    let m : choosers * slots ≤ 200 * slots = mul-le-mul_right slots h in
    omega (arith, m, s)
