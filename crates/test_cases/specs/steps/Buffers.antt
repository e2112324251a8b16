-- A list that holds one number and no other.
use Rattle.std.specs.Prelude.{ℕ, Bool, true, ◌&&◌, List, [], ◌∷◌, ◌==◌}

unfoldable pub filled : ℕ → List ℕ → Bool
filled byte [] = true
filled byte (x ∷ rest) = x == byte && filled byte rest
