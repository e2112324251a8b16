-- The row that a refusal carries, as a number.
use Rattle.std.specs.Prelude.{List, [], ◌∷◌, ℕ}

-- the row carried, 0 where there is none
abbrev pub row_carried : List ℕ → ℕ
row_carried [] = 0
row_carried (row ∷ rest) = row
