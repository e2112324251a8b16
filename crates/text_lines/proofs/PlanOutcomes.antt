-- No two outcomes fit what this crate's functions promise.
use mathlib.Core.Path.{◌≡◌, sym, ap, ◌∙◌}
use Prim.Native.Nat.{ℕ}
use mathlib.Core.List.{List}
use Rattle.text_lines.specs.Put.{Pool, pool}

-- whatever a promise says of the pool and the next place, it says of one pool and one place
pub one-put : {promised : Pool} {text other : List ℕ} {next place : ℕ} → pool text next ≡ promised → pool other place ≡ promised → (text ≡ other) × (next ≡ place)
one-put p q = let e = p ∙ sym q in (ap (λ (z : Pool). z.bytes) e, ap (λ (z : Pool). z.next) e)
