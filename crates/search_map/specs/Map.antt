-- A map of rows by choice: how it is held, what it gives for a choice, and the own map.
use Rattle.std.specs.Prelude.{Bool, ◌&&◌, ◌||◌, not, cond, List, ℕ, ◌+◌, eqb, ltb, leb, length, get_or}
use Rattle.base_lists.specs.Below.{all_below}
use Rattle.base_lists.specs.Flat.{list_below, join_below}
use Rattle.base_lists.specs.Group.{keep_below}
use Rattle.base_lists.specs.Pool.{window}
use Rattle.day_rows.specs.Row.{row_of}
use Rattle.day_rows.specs.declared.row.Row.{Row}
use Rattle.search_map.specs.declared.map.Map as lent

-- ---- which rows are a choice's

-- kinds 1 to 5 have a choice left
unfoldable pub names_left : ℕ → Bool
names_left kind = leb 1 kind && leb kind 5

-- kinds 3 to 5 have a choice right too
unfoldable pub names_right : ℕ → Bool
names_right kind = leb 3 kind && leb kind 5

-- the row has the choice left
unfoldable pub has_left : ℕ → Row → Bool
has_left choice row = names_left row.kind && eqb row.left choice

-- the row has the choice right
unfoldable pub has_right : ℕ → Row → Bool
has_right choice row = names_right row.kind && eqb row.right choice

-- 'rows of kinds 1 to 5 that have it left, or right in 3 to 5, and all rows of kind 6'
unfoldable pub concerns : ℕ → Row → Bool
concerns choice row = eqb row.kind 6 || has_left choice row || has_right choice row

-- ---- a map as it is held

-- the numbers of all entries one after another, and where each choice's entry starts and how long it is
pub record Map : Type 0 where
  pub starts : List ℕ
  pub lengths : List ℕ
  pub numbers : List ℕ

-- a map from its three pools
abbrev pub map_of : List ℕ → List ℕ → List ℕ → Map
map_of starts lengths numbers = record { starts = starts; lengths = lengths; numbers = numbers }

-- the map that a call is lent
abbrev pub map_lent : lent.Map → Map
map_lent map = map_of map.starts.now map.lengths.now map.numbers.now

-- the start that says that a choice has no entry
abbrev pub no_entry : ℕ
no_entry = 65535

-- where a choice's entry starts; a choice past the starts has no entry
unfoldable pub start_of : Map → ℕ → ℕ
start_of map choice = get_or map.starts choice no_entry

-- how many numbers a choice's entry has
unfoldable pub length_of : Map → ℕ → ℕ
length_of map choice = get_or map.lengths choice 0

-- the choice has an entry
unfoldable pub has_entry : Map → ℕ → Bool
has_entry map choice = not (eqb (start_of map choice) no_entry)

-- 'a choice's rows are its map entry, or the whole list where it has none'
unfoldable pub looked_up : Map → List ℕ → ℕ → List ℕ
looked_up map whole choice =
    cond (has_entry map choice) (window (start_of map choice) (length_of map choice) map.numbers) whole

-- ---- what 14 asks of a map

-- not 'a map entry runs past its numbers': the choice has no entry, or the entry ends within the count
unfoldable pub entry_fits : ℕ → Map → ℕ → Bool
entry_fits count map choice = not (has_entry map choice) || leb (start_of map choice + length_of map choice) count

-- the whole list is 0, 1, 2 ..
unfoldable pub is_whole : List ℕ → Bool
is_whole whole = all_below (length whole) λ i. eqb (get_or whole i 0) i

-- 14 is given exactly when this fails: 'a map entry runs past its numbers, a number names no row, or the
-- whole list isn't 0, 1, 2 ..'
unfoldable pub map_keeps : ℕ → ℕ → ℕ → Map → List ℕ → Bool
map_keeps choices rows count map whole =
    all_below choices (entry_fits count map)
    && all_below count (λ i. ltb (get_or map.numbers i 0) rows)
    && is_whole whole

-- ---- the own map

-- a choice's entry of the own map: the numbers of its rows 'in list order'
unfoldable pub own_entry : List ℕ → ℕ → List ℕ
own_entry rows choice = keep_below (length rows) λ i. concerns choice (row_of (get_or rows i 0))

-- 'every choice has an entry': the numbers of the first choices' entries, one after another
unfoldable pub own_numbers : List ℕ → ℕ → List ℕ
own_numbers rows choices = join_below choices (own_entry rows)

-- where the entries of the first choices start
unfoldable pub own_starts : List ℕ → ℕ → List ℕ
own_starts rows choices = list_below choices λ choice. length (own_numbers rows choice)

-- how many numbers the entries of the first choices have
unfoldable pub own_lengths : List ℕ → ℕ → List ℕ
own_lengths rows choices = list_below choices λ choice. length (own_entry rows choice)
