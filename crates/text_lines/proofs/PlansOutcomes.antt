-- No two outcomes fit what this crate's functions promise.
use mathlib.Core.Path.{◌≡◌, sym, ap, ◌∙◌}
use mathlib.Core.List.{List}
use Prim.Native.Nat.{ℕ}
use Rattle.text_lines.specs.Put.{Pool, pool}
use Rattle.text_lines.specs.Pages.{put_page}

pub one-page : (text head : List ℕ) (first number count choices : ℕ) (page : List ℕ) {text' other : List ℕ} {next place : ℕ}
    → pool text' next ≡ put_page text head first number count choices page → pool other place ≡ put_page text head first number count choices page
    → (text' ≡ other) × (next ≡ place)
one-page text head first number count choices page p q = let e = p ∙ sym q in (ap (λ (z : Pool). z.bytes) e, ap (λ (z : Pool). z.next) e)
