-- No two answers fit what `word_of` and `rest_of` promise.
use mathlib.Core.Path.{◌≡◌}
use Prim.Native.Nat.{ℕ, ◌+◌, ◌-◌, ◌*◌}
use Rattle.base_lists.proofs.Outcome.{no_two}

pub one_word : (high low : ℕ) {a b : ℕ} → a ≡ high * 256 + low → b ≡ high * 256 + low → a ≡ b
one_word high low = no_two

pub one-rest : (length : ℕ) {a b : ℕ} → a ≡ length - 4 → b ≡ length - 4 → a ≡ b
one-rest length = no_two
