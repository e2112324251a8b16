-- The first element of a list that fails a test.
use Rattle.std.specs.Prelude.{Bool, cond, List, [], ◌∷◌, ℕ, suc}

-- the place of the first element that fails the test, or the list's length where none does
unfoldable pub first_failing {ℓ} : {A : Type ℓ} → (A → Bool) → List A → ℕ
first_failing p [] = 0
first_failing p (x ∷ l) = cond (p x) (suc (first_failing p l)) 0
