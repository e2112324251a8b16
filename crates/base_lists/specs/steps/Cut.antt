-- Lists that lie one after another in a flat list, told by where each ends.
use Rattle.std.specs.Prelude.{List, [], ◌∷◌, ℕ, ◌-◌, ◌≤◌, take, drop}

-- the lists of a flat list, the first from `start` on, each to its end
unfoldable pub cut_at {ℓ} : {A : Type ℓ} → ℕ → List ℕ → List A → List (List A)
cut_at start [] flat = []
cut_at start (end ∷ ends) flat = take (end - start) (drop start flat) ∷ cut_at end ends flat

-- the ends of such lists don't fall, and none is past `size`
unfoldable pub EndsFit : ℕ → List ℕ → ℕ → Type 0
EndsFit start [] size = Unit {0}
EndsFit start (end ∷ ends) size = (start ≤ end) × (end ≤ size) × EndsFit end ends size
