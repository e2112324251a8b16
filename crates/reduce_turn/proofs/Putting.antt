-- A row that is put where rows can be counted fills the free end with that row.
use mathlib.Core.List.{[], ◌∷◌}
use Prim.Native.Nat.{ℕ}
use native.Mathlib.Omega.{arith}
use Rattle.reduce_turn.specs.declared.free.Free.{Free}
use Rattle.reduce_turn.specs.steps.Free.{Filled, Put, Countable}

pub put_fills : (before after : Free) (row : ℕ) → Countable before.at (row ∷ []) → Put before row after → Filled before (row ∷ []) after
put_fills before after row h p = (p.0, (omega arith, p.1))
