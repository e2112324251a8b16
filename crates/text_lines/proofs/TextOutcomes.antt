-- No two outcomes fit what this crate's functions promise.
use mathlib.Core.Path.{◌≡◌, sym, ap, ◌∙◌}
use mathlib.Core.List.{List}
use Prim.Native.Nat.{ℕ}
use Rattle.base_lists.proofs.Outcome.{no_two}
use Rattle.text_lines.specs.Put.{Pool, pool, put_at}
use Rattle.text_lines.specs.Number.{number_in}
use Rattle.std.specs.Prelude.{Option}

pub one_number : (bytes : List ℕ) {a b : Option ℕ} → a ≡ number_in bytes → b ≡ number_in bytes → a ≡ b
one_number bytes = no_two

-- the pool and the next place
pub one-put : (text : List ℕ) (at : ℕ) (bytes : List ℕ) {text' other : List ℕ} {next place : ℕ} → pool text' next ≡ put_at text at bytes → pool other place ≡ put_at text at bytes
    → (text' ≡ other) × (next ≡ place)
one-put text at bytes p q = let e = p ∙ sym q in (ap (λ (z : Pool). z.bytes) e, ap (λ (z : Pool). z.next) e)
