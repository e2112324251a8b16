-- The least weight of so many choices in each table: after the tables and the weights stand 65 rows a table,
-- one for each first choice, of 65 entries, one for each count.
use Rattle.std.specs.Prelude.{◌≡◌, ◌&&◌, cond, List, ℕ, ◌+◌, ◌-◌, ◌*◌, ◌≤◌, ◌<◌, ltb, length, get_or}
use Rattle.list_tables.specs.steps.Weights.{least}
use Rattle.list_tables.specs.steps.Tables.{lightest_start, weight_at}

-- where a table's least weight of so many of the choices from a first one on stands
abbrev pub lightest_place : ℕ → ℕ → ℕ → ℕ
lightest_place table from count = lightest_start + (table * 65 + from) * 65 + count

-- the least weight of so many of the choices from one on: the table of least weights with every maximum 1
unfoldable pub lightest_of : (ℕ → ℕ → ℕ) → ℕ → ℕ → ℕ → ℕ → ℕ
lightest_of weight choices table from count = least (weight table) (λ choice. 1) from (choices - from) count

-- an entry as it is read: no choices weigh nothing, and so do those past the shape
unfoldable pub lightest_at : List ℕ → ℕ → ℕ → ℕ → ℕ
lightest_at tables table from count =
    cond (ltb 0 count && (ltb table 4 && (ltb from 65 && ltb count 65)))
    (get_or tables (lightest_place table from count) 0)
    0

-- every entry of so many choices is read as the least weight by the weights that stand after the tables
pub record LightestFilled (choices : ℕ) (tables : List ℕ) : Type 0 where
  pub entries : (table from count : ℕ) → table < 4 → from ≤ choices → count ≤ choices
      → lightest_at tables table from count ≡ lightest_of (weight_at tables) choices table from count

-- what filling leaves: the entries of at most 64 choices by the weights that stood there, every other place
-- as it was, and of more choices the array as it was
pub record FillsLightest (choices : ℕ) (before after : List ℕ) : Type 0 where
  pub size : length after ≡ length before
  pub entries : choices ≤ 64 → (table from count : ℕ) → table < 4 → from ≤ choices → count ≤ choices
      → get_or after (lightest_place table from count) 0 ≡ lightest_of (weight_at before) choices table from count
  pub others : (place : ℕ)
      → ((table from count : ℕ) → table < 4 → from ≤ choices → count ≤ choices
      → place ≡ lightest_place table from count → ⊥)
      → get_or after place 0 ≡ get_or before place 0
  pub untouched : 64 < choices → after ≡ before
