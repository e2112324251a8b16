-- Module 2, the turned rows and the clash flag.
use Rattle.std.specs.Prelude.{Bool, cond, ◌&&◌, not, ℕ, eqb}
use mathlib.Core.List.{List, [], ◌∷◌, flat_map}
use Rattle.base_lists.specs.Keep.{any_of}
use Rattle.day_rows.specs.Row.{row_of, row_number, plain_row}
use Rattle.day_rows.specs.declared.row.Row.{Row}

-- the columns of a row by its number
abbrev pub kind_of : ℕ → ℕ
kind_of number = (row_of number).kind

abbrev pub left_of : ℕ → ℕ
left_of number = (row_of number).left

abbrev pub right_of : ℕ → ℕ
right_of number = (row_of number).right

-- 'left and right exchanged', under another kind
abbrev pub exchanged : ℕ → Row → ℕ
exchanged kind row = row_number (plain_row kind row.right row.left)

-- '7 and 8 become 1 and 2, 14 and 15 become 11 and 12'; every other row stays as it is
unfoldable pub turned_row : ℕ → ℕ
turned_row number =
    cond (eqb (kind_of number) 7) (exchanged 1 (row_of number))
    (cond (eqb (kind_of number) 8) (exchanged 2 (row_of number))
    (cond (eqb (kind_of number) 14) (exchanged 11 (row_of number))
    (cond (eqb (kind_of number) 15) (exchanged 12 (row_of number))
    number)))

-- what a given row becomes: '9 is dropped', every other row is turned or stays
unfoldable pub turned_one : ℕ → List ℕ
turned_one number = cond (eqb (kind_of number) 9) [] (turned_row number ∷ [])

abbrev pub turned_rows : List ℕ → List ℕ
turned_rows rows = flat_map turned_one rows

-- a row that clashes: kind 9 'sets the clash flag if its two slots differ'
unfoldable pub clashes_at : ℕ → Bool
clashes_at number = eqb (kind_of number) 9 && not (eqb (left_of number) (right_of number))

abbrev pub clash_of : List ℕ → Bool
clash_of rows = any_of clashes_at rows
