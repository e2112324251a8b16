-- What the private functions of the expansion ask of their callers, and what they leave.
use Rattle.std.specs.Prelude.{◌≡◌, List, ℕ, ◌≤◌, ◌<◌, length}
use Rattle.std.proofs.lemmas.List.Edits.{sets}
use Rattle.base_lists.specs.steps.Cut.{EndsFit}
use Rattle.day_rows.specs.declared.check.Counts.{Counts}

-- the counts are in their ranges, and the pool is lent at its full limit
pub record PoolLent (counts : Counts) (rows pool : ℕ) : Type 0 where
  pub choices_in : counts.choices ≤ 64
  pub choosers_in : counts.choosers ≤ 200
  pub rows_in : rows ≤ 128
  pub pool-is : pool ≡ 1024

-- the turned rows and their groups are no more than a day may have, and the pool is lent at its full limit
pub record Small (choosers : ℕ) (rows members ends : List ℕ) (pool : ℕ) : Type 0 where
  pub choosers_in : choosers ≤ 200
  pub rows_in : length rows ≤ 128
  pub members_in : length members ≤ 64
  pub groups_in : length ends ≤ 64
  pub ends-fit : EndsFit 0 ends (length members)
  pub pool-is : pool ≡ 1024

-- all rows are in the pool, from its start on, if it has room for them; else the count is past the room
pub record PoolFilled (pool rows : List ℕ) (count : ℕ) (exit : List ℕ) : Type 0 where
  pub whole : count ≤ 1024 → (count ≡ length rows) × (exit ≡ sets pool 0 rows)
  pub past : 1024 < count → 1024 < length rows
