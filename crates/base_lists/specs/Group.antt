-- Numbers below a bound that pass a test, classes of equal value, and where each list of several ends.
use Rattle.std.specs.Prelude.{Bool, cond, List, [], ◌∷◌, ◌++◌, map, ℕ, zero, suc, ◌+◌, eqb, length}
use Rattle.base_lists.specs.Below.{one}

-- the numbers below the bound that pass the test, rising
unfoldable pub keep_below : ℕ → (ℕ → Bool) → List ℕ
keep_below zero p = []
keep_below (suc n) p = keep_below n p ++ cond (p n) (n ∷ []) []

-- the numbers below the bound to which the function gives the value, rising
unfoldable pub class_of : ℕ → (ℕ → ℕ) → ℕ → List ℕ
class_of n f value = keep_below n (λ i. eqb (f i) value)

-- the numbers below the bound that are their own value, rising
unfoldable pub heads : ℕ → (ℕ → ℕ) → List ℕ
heads n f = keep_below n (λ r. eqb (f r) r)

-- the class of each number that is its own value, by rising value
unfoldable pub classes : ℕ → (ℕ → ℕ) → List (List ℕ)
classes n f = map (class_of n f) (heads n f)

-- where each of the lists ends if they are written one after another from a place on
unfoldable pub ends_from : ℕ → List (List ℕ) → List ℕ
ends_from at [] = []
ends_from at (l ∷ ls) = (at + length l) ∷ ends_from (at + length l) ls

-- how often a number stands in a list
unfoldable pub times_in : ℕ → List ℕ → ℕ
times_in x [] = 0
times_in x (y ∷ l) = one (eqb x y) + times_in x l
