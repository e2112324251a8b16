-- No two outcomes fit: an equation with zeros settles a pool, one with a number settles the number, as `flag_of`
-- promises it. (`insert_at` has its own law in InsertOutcomes.)
use mathlib.Core.Path.{◌≡◌}
use mathlib.Core.List.{List}
use Prim.Native.Nat.{ℕ, ◌≤◌}
use lib.ListN.{length, replicate}
use Rattle.base_lists.proofs.Outcome.{no_two}

-- a pool of n that is filled with 0
pub one_clearing : (n : ℕ) {p q : List ℕ} → p ≡ replicate n 0 → q ≡ replicate n 0 → p ≡ q
one_clearing n = no_two

-- a number widened, with the bound that its narrow type gives it
pub one-wide : (narrow most : ℕ) {a b : ℕ} → (a ≡ narrow) × (a ≤ most) → (b ≡ narrow) × (b ≤ most) → a ≡ b
one-wide narrow most p q = no_two p.0 q.0

-- what is left of a number, the larger or the smaller of two, `flag_of`
pub one_number : (given : ℕ) {a b : ℕ} → a ≡ given → b ≡ given → a ≡ b
one_number given = no_two

-- a new pool of zeros, whose length is n
pub one-pool : (n : ℕ) {p q : List ℕ} → (n ≡ length p) × (p ≡ replicate n 0) → (n ≡ length q) × (q ≡ replicate n 0) → p ≡ q
one-pool n h k = no_two h.1 k.1
