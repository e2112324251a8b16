-- The four tables in one array: a table has 65 rows, one for each first choice, of 201 entries,
-- one for each lack; after the tables stands what each choice weighs in each table, and then the
-- least weights of so many choices.
use Rattle.std.specs.Prelude.{◌≡◌, Bool, true, false, ◌&&◌, cond, List, ℕ, zero, suc, ◌+◌, ◌-◌, ◌*◌, ◌≤◌, ◌<◌, min, eqb, ltb, leb, length, get_or, set}
use Rattle.day_rows.specs.declared.check.Counts.{Counts}
use Rattle.list_tables.specs.steps.Weights.{least_of}

-- how many numbers the array has: the last are four tables of 65 rows of 65 least weights of so many choices
abbrev pub tables_size : ℕ
tables_size = 69416

-- where the weights start: after four tables of 65 rows of 201 entries
abbrev pub weights_start : ℕ
weights_start = 52260

-- where the least weights of so many choices start: after the weights of 64 choices in four tables
abbrev pub lightest_start : ℕ
lightest_start = 52516

-- where a table's entry for a first choice and a lack stands
abbrev pub entry_place : ℕ → ℕ → ℕ → ℕ
entry_place table from lack = (table * 65 + from) * 201 + lack

-- where a choice's weight in a table stands
abbrev pub weight_place : ℕ → ℕ → ℕ
weight_place table choice = weights_start + table * 64 + choice

-- the days that the tables hold: at most 64 choices and 200 choosers, and a maximum for each choice
unfoldable pub tables_fit : Counts → List ℕ → Bool
tables_fit counts maxs =
    leb counts.choices 64 && (leb counts.choosers 200 && eqb (length maxs) counts.choices)

-- an entry as it is read: 0 past the tables' shape
unfoldable pub entry_at : List ℕ → ℕ → ℕ → ℕ → ℕ
entry_at tables table from lack =
    cond (ltb table 4 && (ltb from 65 && ltb lack 201)) (get_or tables (entry_place table from lack) 0) 0

-- a choice's weight in a table as it is read: 0 past the tables' shape
unfoldable pub weight_at : List ℕ → ℕ → ℕ → ℕ
weight_at tables table choice =
    cond (ltb table 4 && ltb choice 64) (get_or tables (weight_place table choice) 0) 0

-- every entry that the day uses is the least weight by the weights that stand after the tables, and in table
-- 0 no choice weighs more than 1
pub record TablesFilled (counts : Counts) (maxs tables : List ℕ) : Type 0 where
  pub size : length tables ≡ tables_size
  pub entries : (table from lack : ℕ) → table < 4 → from ≤ counts.choices → lack ≤ counts.choosers
      → get_or tables (entry_place table from lack) 0 ≡ least_of (weight_at tables) counts maxs table from lack
  pub ones : (choice : ℕ) → weight_at tables 0 choice ≤ 1

-- what filling the tables leaves: the tables of a day that they hold, by the weights that stood there of
-- tables 1 to 3, and of another day the array as it was
pub record Fills (counts : Counts) (maxs before after : List ℕ) : Type 0 where
  pub filled : tables_fit counts maxs ≡ true → TablesFilled counts maxs after
  pub weights : tables_fit counts maxs ≡ true → (table choice : ℕ) → 1 ≤ table
      → weight_at after table choice ≡ weight_at before table choice
  pub untouched : tables_fit counts maxs ≡ false → after ≡ before

-- so many entries written one after the other
unfoldable pub written : ℕ → ℕ → (ℕ → ℕ) → List ℕ → List ℕ
written zero at f tables = tables
written (suc n) at f tables = set (written n at f tables) (at + n) (f n)

-- a row's entry by the row after it, which starts a row's width later: the choice is left out, or taken, and
-- then its maximum is no longer lacking
unfoldable pub next_entry : ℕ → List ℕ → ℕ → ℕ → ℕ → ℕ → ℕ
next_entry width tables at weight most lack =
    min (get_or tables (at + width + lack) 0) (weight + get_or tables (at + width + (lack - most)) 0)

-- the weights with 1 for each choice in table 0
unfoldable pub with_ones : List ℕ → List ℕ
with_ones tables = written 64 weights_start (λ choice. 1) tables

-- of one table the rows from a choice on are least weights by the weights before, and what stands outside
-- that table's 65 rows of 201 entries is as before
pub record Filling (counts : Counts) (maxs before : List ℕ) (table from : ℕ) (tables : List ℕ) : Type 0 where
  pub size : length tables ≡ tables_size
  pub outside : (place : ℕ) → (table * 13065 ≤ place → place < table * 13065 + 13065 → ⊥)
      → get_or tables place 0 ≡ get_or before place 0
  pub rows_after : (first lack : ℕ) → from ≤ first → first ≤ counts.choices → lack ≤ counts.choosers
      → get_or tables (entry_place table first lack) 0 ≡ least_of (weight_at before) counts maxs table first lack

-- so many tables are filled by the weights before, and the weights are as before
pub record FirstFilled (counts : Counts) (maxs before : List ℕ) (count : ℕ) (tables : List ℕ) : Type 0 where
  pub size : length tables ≡ tables_size
  pub entries : (table from lack : ℕ) → table < count → from ≤ counts.choices → lack ≤ counts.choosers
      → get_or tables (entry_place table from lack) 0 ≡ least_of (weight_at before) counts maxs table from lack
  pub weights : (table choice : ℕ) → weight_at tables table choice ≡ weight_at before table choice
