-- How the code holds a state of the walk: candidates of all depths in one list, where the next of each depth
-- stands and where they end.
use mathlib.Core.Path.{◌≡◌}
use mathlib.Core.Bool.{Bool, cond}
use mathlib.Core.List.{List, [], ◌∷◌}
use Prim.Native.Nat.{ℕ, zero, suc, ◌+◌, ◌*◌, ◌-◌, ◌≤◌, ◌<◌}
use lib.ListN.{length, get_or}
use Rattle.base_lists.specs.Pool.{window}

-- the candidates left at each of the first depths, deepest first
unfoldable pub stack_of : List ℕ → List ℕ → List ℕ → ℕ → List (List ℕ)
stack_of pool next end zero = []
stack_of pool next end (suc depth) = window (get_or next depth 0) (get_or end depth 0 - get_or next depth 0) pool ∷ stack_of pool next end depth

-- how many depths have their candidates made: those of a new depth aren't
unfoldable pub made : Bool → ℕ → ℕ
made new depth = cond new depth (suc depth)

-- each depth's candidates stand in its own 25 entries of the pool
pub record Held (pool next end : List ℕ) (depths : ℕ) : Type 0 where
  pub pool-length : length pool ≡ 1625
  pub next-length : length next ≡ 65
  pub end-length : length end ≡ 65
  pub begins : (i : ℕ) → i < depths → 25 * i ≤ get_or next i 0
  pub rises : (i : ℕ) → i < depths → get_or next i 0 ≤ get_or end i 0
  pub ends : (i : ℕ) → i < depths → get_or end i 0 ≤ 25 * i + 25

-- the candidates of a new depth are made, those of another are as they were left
pub record Opened (candidates : List ℕ) (drawn : ℕ) (new : Bool) (depth draw : ℕ) (pool next end : List ℕ) (r : ℕ) (pool' next' end' : List ℕ) : Type 0 where
  pub held : Held pool' next' end' (suc depth)
  pub stack : stack_of pool' next' end' (suc depth) ≡ cond new (candidates ∷ stack_of pool next end depth) (stack_of pool next end (suc depth))
  pub draws : r ≡ cond new drawn draw
