-- Module 2, the copies: 'for each row of kind 11 or 12, the same row for every other member of its choice's
-- group'.
use Rattle.std.specs.Prelude.{Bool, cond, ◌||◌, ℕ, eqb}
use mathlib.Core.List.{List, [], ◌∷◌, flat_map}
use Rattle.base_lists.specs.Keep.{any_of}
use Rattle.day_rows.specs.Row.{row_of, row_number, plain_row}
use Rattle.day_rows.specs.declared.row.Row.{Row}

-- 'the same row' for a member, if it is an 'other member'
unfoldable pub copy_to : Row → ℕ → List ℕ
copy_to row member =
    cond (eqb member row.right) [] (row_number (plain_row row.kind row.left member) ∷ [])

-- a row's copies in a group: none if the group isn't 'its choice's group'
unfoldable pub copies_in : Row → List ℕ → List ℕ
copies_in row group = cond (any_of (eqb row.right) group) (flat_map (copy_to row) group) []

-- the kinds that are copied: 'each row of kind 11 or 12'
unfoldable pub is_copied : ℕ → Bool
is_copied kind = eqb kind 11 || eqb kind 12

unfoldable pub copies_of : List (List ℕ) → ℕ → List ℕ
copies_of groups number = cond (is_copied (row_of number).kind) (flat_map (copies_in (row_of number)) groups) []

abbrev pub copies_all : List (List ℕ) → List ℕ → List ℕ
copies_all groups rows = flat_map (copies_of groups) rows
