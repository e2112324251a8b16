-- A small list of rows and maps, computed from the definitions.
use mathlib.Core.Path.{◌≡◌, refl}
use mathlib.Core.Bool.{true, false}
use mathlib.Core.List.{List, [], ◌∷◌}
use Prim.Native.Nat.{ℕ}
use Rattle.base_lists.specs.Below.{all_below}
use Rattle.base_lists.specs.Flat.{list_below, join_below}
use Rattle.base_lists.specs.Group.{keep_below}
use Rattle.base_lists.specs.Pool.{window}
use Rattle.day_rows.specs.Row.{row_of, row_number}
use Rattle.search_map.specs.Map.{map_of, no_entry, names_left, names_right, has_left, has_right, concerns, start_of, length_of, has_entry, looked_up, entry_fits, is_whole, map_keeps, own_entry, own_numbers, own_starts, own_lengths}

-- kind 1 of choice 0, kind 2 of choice 2 with slot 1, kind 4 of choices 0 and 2, kind 5 of 2 and 0, and a
-- limit on slot 1
unfoldable pub five_rows : List ℕ
five_rows =
    row_number (record { kind = 1; left = 0; right = 2; extra = 32768 })
    ∷ row_number (record { kind = 2; left = 2; right = 1; extra = 32768 })
    ∷ row_number (record { kind = 4; left = 0; right = 2; extra = 32768 })
    ∷ row_number (record { kind = 5; left = 2; right = 0; extra = 32769 })
    ∷ row_number (record { kind = 6; left = 1; right = 3; extra = 32766 })
    ∷ []

-- the entries of three choices: the slot of kind 1 is no choice, both ends of kinds 4 and 5 are, and the
-- limit is everyone's
pub five-numbers : own_numbers five_rows 3 ≡ 0 ∷ 2 ∷ 3 ∷ 4 ∷ 4 ∷ 1 ∷ 2 ∷ 3 ∷ 4 ∷ []
unfolding five_rows row_number row_of own_numbers own_entry join_below keep_below concerns has_left has_right names_left names_right
five-numbers = refl

pub five-starts : own_starts five_rows 3 ≡ 0 ∷ 4 ∷ 5 ∷ []
unfolding five_rows row_number row_of own_starts list_below own_numbers own_entry join_below keep_below concerns has_left has_right names_left names_right
five-starts = refl

pub five-lengths : own_lengths five_rows 3 ≡ 4 ∷ 1 ∷ 4 ∷ []
unfolding five_rows row_number row_of own_lengths list_below own_entry keep_below concerns has_left has_right names_left names_right
five-lengths = refl

-- a map of two choices: the first has an entry of no rows, the second has none and so the whole list
pub empty-entry : looked_up (map_of (0 ∷ no_entry ∷ []) (0 ∷ 7 ∷ []) []) (0 ∷ 1 ∷ 2 ∷ []) 0 ≡ []
unfolding looked_up has_entry start_of length_of window
empty-entry = refl

pub no-entry : looked_up (map_of (0 ∷ no_entry ∷ []) (0 ∷ 7 ∷ []) []) (0 ∷ 1 ∷ 2 ∷ []) 1 ≡ 0 ∷ 1 ∷ 2 ∷ []
unfolding looked_up has_entry start_of length_of window
no-entry = refl

-- an entry that ends where its numbers do is good, one that runs a number past them is not
pub entry-at_the_end : map_keeps 1 3 2 (map_of (1 ∷ []) (1 ∷ []) (0 ∷ 2 ∷ [])) (0 ∷ 1 ∷ 2 ∷ []) ≡ true
unfolding map_keeps all_below entry_fits has_entry start_of length_of is_whole
entry-at_the_end = refl

pub entry-past_the_end : map_keeps 1 3 2 (map_of (1 ∷ []) (2 ∷ []) (0 ∷ 2 ∷ [])) (0 ∷ 1 ∷ 2 ∷ []) ≡ false
unfolding map_keeps all_below entry_fits has_entry start_of length_of is_whole
entry-past_the_end = refl

-- a map with a number that names no row isn't good
pub number-past_the_rows : map_keeps 1 3 2 (map_of (1 ∷ []) (1 ∷ []) (0 ∷ 3 ∷ [])) (0 ∷ 1 ∷ 2 ∷ []) ≡ false
unfolding map_keeps all_below entry_fits has_entry start_of length_of is_whole
number-past_the_rows = refl

-- a whole list in another order isn't good
pub whole-turned : map_keeps 1 3 2 (map_of (1 ∷ []) (1 ∷ []) (0 ∷ 2 ∷ [])) (0 ∷ 2 ∷ 1 ∷ []) ≡ false
unfolding map_keeps all_below entry_fits has_entry start_of length_of is_whole
whole-turned = refl
