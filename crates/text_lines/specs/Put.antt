-- A text put into a pool of bytes, one part behind the other.
use Rattle.std.specs.Prelude.{cond, List, ℕ, ◌+◌, leb, length}
use Rattle.std.proofs.lemmas.List.Edits.{sets}
use Rattle.text_lines.specs.declared.put.Pool as lent

-- the pool, and the place where the next part goes
pub record Pool : Type 0 where
  pub bytes : List ℕ
  pub next : ℕ

-- a pool by its two parts
abbrev pub pool : List ℕ → ℕ → Pool
pool bytes next = record { bytes = bytes; next = next }

-- the pool that a call is lent
abbrev pub pool_lent : lent.Pool → Pool
pool_lent text = pool text.bytes.now text.next

-- where there is room for the bytes they stand from a place on, and the next part goes behind them; else the
-- pool stays as it is
unfoldable pub put_at : List ℕ → ℕ → List ℕ → Pool
put_at text at bytes =
    cond (leb (at + length bytes) (length text))
    (pool (sets text at bytes) (at + length bytes))
    (pool text at)
