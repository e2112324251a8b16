-- The least weight of a set of choices that fills what a slot lacks: choices weigh what a table
-- gives them, and any weights serve.
use Rattle.std.specs.Prelude.{cond, List, ℕ, zero, suc, ◌+◌, ◌-◌, min, eqb, get_or}
use Rattle.day_rows.specs.declared.check.Counts.{Counts}

-- the entry of a lack that no set fills
abbrev pub unreached : ℕ
unreached = 30000

-- with no choice left a lack of 0 is filled, and no other
unfoldable pub last_entry : ℕ → ℕ
last_entry lack = cond (eqb lack 0) 0 unreached

-- the least weight of a set of the count choices from a first one on whose maximums sum to at least the lack
unfoldable pub least : (ℕ → ℕ) → (ℕ → ℕ) → ℕ → ℕ → ℕ → ℕ
least weight most from zero lack = last_entry lack
least weight most from (suc count) lack =
    min (least weight most (suc from) count lack)
    (weight from + least weight most (suc from) count (lack - most from))

-- a choice's maximum
abbrev pub most_of : List ℕ → ℕ → ℕ
most_of maxs choice = get_or maxs choice 0

-- a table's entry by what each choice weighs in each table: the least weight of a set of the day's choices
-- from one on that fills the lack
unfoldable pub least_of : (ℕ → ℕ → ℕ) → Counts → List ℕ → ℕ → ℕ → ℕ → ℕ
least_of weight counts maxs table from lack =
    least (weight table) (λ choice. get_or maxs choice 0) from (counts.choices - from) lack

-- the sum of what a function gives for so many numbers from a first one on
unfoldable pub sum_from : ℕ → ℕ → (ℕ → ℕ) → ℕ
sum_from from zero f = 0
sum_from from (suc count) f = f from + sum_from (suc from) count f
