-- No two outcomes fit a promise that is an equation to a definition.
use mathlib.Core.Path.{◌≡◌, sym, ◌∙◌}

-- two outcomes that are each what the definition gives are one
pub no_two {ℓ} : {A : Type ℓ} {given one other : A} → one ≡ given → other ≡ given → one ≡ other
no_two p q = p ∙ sym q
