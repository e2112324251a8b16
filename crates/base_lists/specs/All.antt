-- A test of every element of a list.
use Rattle.std.specs.Prelude.{Bool, true, ◌&&◌, List, [], ◌∷◌, ℕ, leb, length, get_or}
use Rattle.base_lists.specs.Below.{all_below}

-- the test holds of every element of the list
unfoldable pub all_of {ℓ} : {A : Type ℓ} → (A → Bool) → List A → Bool
all_of p [] = true
all_of p (x ∷ l) = p x && all_of p l

-- every entry of the list is at most the limit
unfoldable pub all_at_most : ℕ → List ℕ → Bool
all_at_most limit l = all_below (length l) (λ i. leb (get_or l i 0) limit)
