-- The least weights of so many choices while they are filled: row by row, and table by table.
use Rattle.std.specs.Prelude.{◌≡◌, List, ℕ, ◌≤◌, ◌<◌, length, get_or}
use Rattle.list_tables.specs.steps.Tables.{tables_size, weight_at}
use Rattle.list_tables.specs.steps.Lightest.{lightest_place, lightest_of}

-- of one table the rows from a choice on are least weights by the weights before, and what stands outside its
-- entries is as before
pub record Filling (choices : ℕ) (before : List ℕ) (table from : ℕ) (tables : List ℕ) : Type 0 where
  pub size : length tables ≡ tables_size
  pub outside : (place : ℕ)
      → ((row count : ℕ) → row ≤ choices → count ≤ choices → place ≡ lightest_place table row count → ⊥)
      → get_or tables place 0 ≡ get_or before place 0
  pub rows_after : (row count : ℕ) → from ≤ row → row ≤ choices → count ≤ choices
      → get_or tables (lightest_place table row count) 0 ≡ lightest_of (weight_at before) choices table row count

-- the entries of the first so many tables are least weights by the weights before, and what
-- stands outside them is as before
pub record FirstFilled (choices : ℕ) (before : List ℕ) (filled : ℕ) (tables : List ℕ) : Type 0 where
  pub size : length tables ≡ tables_size
  pub outside : (place : ℕ)
      → ((table row count : ℕ) → table < filled → row ≤ choices → count ≤ choices
      → place ≡ lightest_place table row count → ⊥)
      → get_or tables place 0 ≡ get_or before place 0
  pub entries : (table row count : ℕ) → table < filled → row ≤ choices → count ≤ choices
      → get_or tables (lightest_place table row count) 0 ≡ lightest_of (weight_at before) choices table row count
