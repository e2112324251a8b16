-- What the functions that make the own map ask of their callers, and what they leave.
use Rattle.std.specs.Prelude.{◌≡◌, Bool, cond, List, [], ◌∷◌, ℕ, ◌+◌, ◌≤◌, length, replicate}
use Rattle.std.proofs.lemmas.List.Edits.{sets}
use Rattle.search_map.specs.Map.{Map, own_starts, own_lengths, own_numbers}
use Rattle.search_map.specs.Calls.{own_pools}

-- numbers written from a place on, as far as the pool has room, and the place after them
abbrev pub Wrote : List ℕ → ℕ → List ℕ → ℕ → List ℕ → Type 0
Wrote pool at numbers after exit = (after ≡ at + length numbers) × (exit ≡ sets pool at numbers)

-- a row's number as a list of one, if the test holds, else none
unfoldable pub row_if : Bool → ℕ → List ℕ
row_if test row = cond test (row ∷ []) []

-- choices and rows in their ranges, and the pools at their full limits
pub record PoolsFull (choices : ℕ) (rows starts lengths numbers : List ℕ) : Type 0 where
  pub choices_in : choices ≤ 64
  pub rows_in : length rows ≤ 1024
  pub starts-full : length starts ≡ 64
  pub lengths-full : length lengths ≡ 64
  pub numbers-full : length numbers ≡ 10240

-- each pool of a map is zeros, as long as before
pub record Cleared (before after : Map) : Type 0 where
  pub starts-zero : after.starts ≡ replicate (length before.starts) 0
  pub lengths-zero : after.lengths ≡ replicate (length before.lengths) 0
  pub numbers-zero : after.numbers ≡ replicate (length before.numbers) 0

-- every entry of the own map is written, from the start of each pool on
pub record Entered (choices : ℕ) (rows : List ℕ) (before : Map) (count : ℕ) (after : Map) : Type 0 where
  pub counted : count ≡ length (own_numbers rows choices)
  pub starts_are : after.starts ≡ sets before.starts 0 (own_starts rows choices)
  pub lengths_are : after.lengths ≡ sets before.lengths 0 (own_lengths rows choices)
  pub numbers_are : after.numbers ≡ sets before.numbers 0 (own_numbers rows choices)

-- the pools hold the own map, or zeros where it has too many numbers
pub record OwnMapFilled (choices : ℕ) (rows : List ℕ) (count : ℕ) (after : Map) : Type 0 where
  pub counted : count ≡ length (own_numbers rows choices)
  pub pools_are : after ≡ own_pools rows choices
