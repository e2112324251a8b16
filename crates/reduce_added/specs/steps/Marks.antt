-- Which choosers have kind 11 choices at all, so that the others' lists aren't gathered.
use Rattle.std.specs.Prelude.{◌≡◌, List, [], ℕ, ◌<◌, length, get_or}
use Rattle.reduce_added.specs.Pairs.{mandatory_one, mandatory}

-- flags for choosers, after one row is marked: where one is still zero it was, and the row isn't the
-- chooser's
abbrev pub MarkedOne : ℕ → List ℕ → List ℕ → Type 0
MarkedOne number before after =
    (chooser : ℕ) → chooser < length before → get_or after chooser 0 ≡ 0
    → (get_or before chooser 0 ≡ 0) × (mandatory_one chooser number ≡ [])

-- a chooser whose flag is zero has no kind 11 choices
abbrev pub Marked : List ℕ → List ℕ → Type 0
Marked rows named =
    (chooser : ℕ) → chooser < length named → get_or named chooser 0 ≡ 0 → mandatory rows chooser ≡ []
