-- A row by its columns and by its number, and 01's order of rows.
use Rattle.std.specs.Prelude.{Bool, false, ◌&&◌, ◌||◌, not, List, [], ◌∷◌, ℕ, ◌+◌, ◌*◌, ◌/◌, ◌%◌, ◌^◌, ℤ, pos}
use Rattle.std.specs.Int.Signed.{lt_z}
use Rattle.day_rows.specs.Op.{signed_of}
use Rattle.day_rows.specs.declared.row.Row.{Row}

-- the row that a number of a pool stands for
unfoldable pub row_of : ℕ → Row
row_of number =
    record {
      kind = number / 2 ^ 48;
      left = number / 2 ^ 32 % 2 ^ 16;
      right = number / 2 ^ 16 % 2 ^ 16;
      extra = number % 2 ^ 16;
    }

-- the row's number in a pool
unfoldable pub row_number : Row → ℕ
row_number row = row.kind * 2 ^ 48 + row.left * 2 ^ 32 + row.right * 2 ^ 16 + row.extra

-- a row whose extra is 0
abbrev pub plain_row : ℕ → ℕ → ℕ → Row
plain_row kind left right = record { kind = kind; left = left; right = right; extra = 32768 }

-- a row's columns as they are sorted: '(kind, left, right, extra) as signed numbers'
unfoldable pub signed_columns : Row → List ℤ
signed_columns row = pos row.kind ∷ pos row.left ∷ pos row.right ∷ signed_of row.extra ∷ []

-- dictionary order of two lists of one length
unfoldable pub earlier : List ℤ → List ℤ → Bool
earlier [] ys = false
earlier (x ∷ xs) [] = false
earlier (x ∷ xs) (y ∷ ys) = lt_z x y || (not (lt_z y x) && earlier xs ys)
