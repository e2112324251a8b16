-- What the private functions of the climb and the join ask of their callers.
use Rattle.std.specs.Prelude.{◌≡◌, List, ℕ, zero, suc, ◌≤◌, ◌<◌, length, get_or}
use Rattle.reduce_union_find.specs.declared.UnionFind.{UnionFind}
use Rattle.reduce_union_find.specs.State.{height_of}

-- a climb from the element meets a root within the steps left, and stays within the 64 entries
unfoldable pub Ends : ℕ → List ℕ → ℕ → Type 0
Ends zero parents i = (i < 64) × (get_or parents i 0 ≡ 255)
Ends (suc left) parents i = (i < 64) × ((get_or parents i 0 ≡ 255 → ⊥) → Ends left parents (get_or parents i 0))

-- 64 parents, along which the climb from each of the elements ends
pub record Climbs (parents : List ℕ) (choices : ℕ) : Type 0 where
  pub wide : length parents ≡ 64
  pub small : choices ≤ 64
  pub ends : (i : ℕ) → i < choices → Ends 64 parents i

-- two places of the record whose heights are in their range
pub record Fits (uf : UnionFind) (left right : ℕ) : Type 0 where
  pub left_in : left < 64
  pub right_in : right < 64
  pub left_height : height_of uf left ≤ 64
  pub right_height : height_of uf right ≤ 64
