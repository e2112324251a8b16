-- Module 4: the bound.
use Rattle.std.specs.Prelude.{Bool, ◌&&◌, cond, List, [], ◌∷◌, ℕ, min, leb}
use Rattle.base_lists.specs.All.{all_of}
use Rattle.base_lists.specs.Keep.{keep, any_of}
use Rattle.base_choice_sets.specs.Sets.{size_of}
use Rattle.day_rows.specs.Levels.{last_level}
use Rattle.sets_analysis.specs.SetsDay.{SetsDay}
use Rattle.sets_analysis.specs.Kept.{CriticalSet}

-- the set is 'of that level or above'
unfoldable pub is_above : ℕ → CriticalSet → Bool
is_above level set = leb level set.level

-- the set 'has at least S members'
unfoldable pub is_large : ℕ → CriticalSet → Bool
is_large slots set = leb slots (size_of set.members)

-- a level lowers the bound: 'kept sets of that level or above exist and the smallest has at least S members';
-- that is, some exist, and all have so many
unfoldable pub lowers : ℕ → List CriticalSet → ℕ → Bool
lowers slots sets level = any_of (is_above level) sets && all_of (is_large slots) (keep (is_above level) sets)

-- a bound 'lowered to each level at which' sets exist that are so large, level after level
unfoldable pub lowered_to : ℕ → List CriticalSet → ℕ → List ℕ → ℕ
lowered_to slots sets bound [] = bound
lowered_to slots sets bound (level ∷ levels) =
    lowered_to slots sets (cond (lowers slots sets level) (min bound level) bound) levels

-- 'Bound: the largest level, lowered to each level at which kept sets of that level or above exist and the
-- smallest has at least S members'
unfoldable pub bound_of : SetsDay → List CriticalSet → ℕ
bound_of day sets = lowered_to day.counts.slots sets (last_level day.levels) day.levels
