-- Numbers of two, four and eight bytes, high byte first, from a place of a record on; 0 past 2^32.
use Rattle.std.specs.Prelude.{ℕ, ◌+◌, ◌*◌, ◌%◌, ◌^◌, cond, List, nat_lt, slice_index}

unfoldable pub word_at : List ℕ → ℕ → ℕ
word_at bytes at = cond (nat_lt 4294967295 at) 0 (slice_index bytes at * 256 + slice_index bytes (at + 1))

abbrev pub draw_at : List ℕ → ℕ → ℕ
draw_at bytes at = word_at bytes at * 65536 + word_at bytes ((at + 2) % 2 ^ 64)

unfoldable pub number_at : List ℕ → ℕ → ℕ
number_at bytes at =
    cond (nat_lt 4294967295 at) 0
    (word_at bytes at * 2 ^ 48 + word_at bytes (at + 2) * 2 ^ 32
    + word_at bytes (at + 4) * 2 ^ 16 + word_at bytes (at + 6))
