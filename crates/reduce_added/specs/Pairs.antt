-- Module 2, the kind 4 rows: 'for each pair i < j of positions'.
use Rattle.std.specs.Prelude.{cond, ◌&&◌, ℕ, zero, suc, eqb}
use mathlib.Core.List.{List, [], ◌∷◌, ◌++◌, map, flat_map}
use Rattle.day_rows.specs.Row.{row_number, plain_row}
use Rattle.reduce_turn.specs.Turn.{kind_of, left_of, right_of}

-- 'a kind 4 row' of two choices, the one at the earlier position left
unfoldable pub pair_row : ℕ → ℕ → ℕ
pair_row left right = row_number (plain_row 4 left right)

-- the rows of all pairs i < j of positions in a list: each choice with those after it
unfoldable pub pairs_of : List ℕ → List ℕ
pairs_of [] = []
pairs_of (choice ∷ list) = map (pair_row choice) list ++ pairs_of list

-- the pairs 'in each same-choosers group'
abbrev pub group_pairs : List (List ℕ) → List ℕ
group_pairs groups = flat_map pairs_of groups

-- the choice of a row, if it is of kind 11 and the chooser's
unfoldable pub mandatory_one : ℕ → ℕ → List ℕ
mandatory_one chooser number =
    cond (eqb (kind_of number) 11 && eqb (left_of number) chooser) (right_of number ∷ []) []

-- a 'chooser's list of kind 11 choices in given order, duplicates kept'
abbrev pub mandatory : List ℕ → ℕ → List ℕ
mandatory rows chooser = flat_map (mandatory_one chooser) rows

-- the pairs 'in each chooser's list', for the choosers below a number
unfoldable pub mandatory_pairs : List ℕ → ℕ → List ℕ
mandatory_pairs rows zero = []
mandatory_pairs rows (suc choosers) = mandatory_pairs rows choosers ++ pairs_of (mandatory rows choosers)
