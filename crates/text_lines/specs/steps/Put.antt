-- What the functions that put a text hand on to each other.
use Rattle.std.specs.Prelude.{◌≡◌, List, ℕ, ◌+◌, ◌≤◌, length}
use Rattle.std.proofs.lemmas.List.Edits.{sets}
use Rattle.text_lines.specs.declared.put.Pool.{Pool}

-- there is room for the bytes from a place on
abbrev pub Fits : List ℕ → ℕ → List ℕ → Type 0
Fits text at bytes = at + length bytes ≤ length text

-- the bytes stand from a place on, and the next place is behind them
abbrev pub Put : List ℕ → ℕ → List ℕ → List ℕ → ℕ → Type 0
Put text at bytes text' next = (next ≡ at + length bytes) × (text' ≡ sets text at bytes)

-- a pool's bytes are the ones that it was lent: who lent them finds in them what was put
abbrev pub SamePool : Pool → Pool → Type 0
SamePool before after = after.bytes.ghost_name ≡ before.bytes.ghost_name

-- there is room in the pool for the bytes
abbrev pub FitsIn : Pool → List ℕ → Type 0
FitsIn text bytes = Fits text.bytes.now text.next bytes

-- the bytes are put into the pool
abbrev pub PutIn : Pool → List ℕ → Pool → Type 0
PutIn before bytes after = Put before.bytes.now before.next bytes after.bytes.now after.next
