-- Bytes of two lists, each from a place on: places wrap, and past its end a list has zeros.
use Rattle.std.specs.Prelude.{ℕ, zero, suc, ◌+◌, ◌%◌, ◌^◌, Bool, true, ◌&&◌, List, ◌==◌, slice_index}

-- the i-th of them are equal
unfoldable pub alike_at : List ℕ → ℕ → List ℕ → ℕ → ℕ → Bool
alike_at one from other at i = slice_index one ((from + i) % 2 ^ 64) == slice_index other ((at + i) % 2 ^ 64)

-- the first n of them are
unfoldable pub alike : List ℕ → ℕ → List ℕ → ℕ → ℕ → Bool
alike one from other at zero = true
alike one from other at (suc n) = alike one from other at n && alike_at one from other at n
