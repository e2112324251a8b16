-- A day's levels, as 'Numbers a day may have' tells of them.
use Rattle.std.specs.Prelude.{Bool, ◌&&◌, List, ℕ, ◌+◌, ◌-◌, ltb, leb, length, get_or}
use Rattle.base_lists.specs.Below.{all_below}

-- the number of levels is in its range: 'levels L 1..64'
unfoldable pub levels_in_range : ℕ → Bool
levels_in_range levels = leb 1 levels && leb levels 64

-- 'Levels rise strictly': each level is under the next
unfoldable pub levels_rise : List ℕ → Bool
levels_rise levels = all_below (length levels - 1) (λ i. ltb (get_or levels i 0) (get_or levels (i + 1) 0))

-- the last level, 0 of none: 'the last stands for `max_preference`'
unfoldable pub last_level : List ℕ → ℕ
last_level levels = get_or levels (length levels - 1) 0
