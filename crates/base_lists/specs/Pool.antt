-- Pools and flat lists: a result padded to its pool's length, and a window of a flat list.
use Rattle.std.specs.Prelude.{List, ◌++◌, ℕ, ◌-◌, length, take, drop, replicate}

-- the list, and zeros after it up to n entries: 'Success zeroes a pool past its result'
unfoldable pub pad : ℕ → List ℕ → List ℕ
pad n l = l ++ replicate (n - length l) 0

-- size entries of a flat list, from the entry at start on
unfoldable pub window {ℓ} : {A : Type ℓ} → ℕ → ℕ → List A → List A
window start size l = take size (drop start l)
