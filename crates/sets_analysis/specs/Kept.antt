-- Module 4: which sets are kept, and simplifying.
use Rattle.std.specs.Prelude.{Bool, ◌&&◌, ◌||◌, not, cond, List, [], ◌∷◌, ◌++◌, ℕ, zero, suc, ◌+◌, ◌*◌, ◌-◌, eqb, ltb, leb, length, get_or}
use Rattle.base_lists.specs.Below.{sum_below}
use Rattle.base_lists.specs.Flat.{list_below, join_below}
use Rattle.base_lists.specs.Keep.{keep, any_of}
use Rattle.base_choice_sets.specs.Sets.{has, set_of, within, same_choices}
use Rattle.sets_analysis.specs.SetsDay.{SetsDay, preference_of}

-- a critical set: its level, and the choices in it
pub record CriticalSet : Type 0 where
  pub level : ℕ
  pub members : ℕ

-- a critical set by its parts
abbrev pub critical_set : ℕ → ℕ → CriticalSet
critical_set level members = record { level = level; members = members }

-- a chooser's set at a level: 'the set of choices with preference <= level'
unfoldable pub candidate_of : SetsDay → ℕ → ℕ → CriticalSet
candidate_of day level chooser =
    critical_set level (set_of day.counts.choices λ choice. leb (preference_of day chooser choice) level)

-- 'Levels downwards': the i-th level from the top
unfoldable pub level_down : SetsDay → ℕ → ℕ
level_down day i = get_or day.levels (day.counts.levels - (i + 1)) 0

-- every chooser's set at every level: 'Levels downwards, choosers upwards'
unfoldable pub candidates : SetsDay → List CriticalSet
candidates day =
    join_below day.counts.levels λ i. list_below day.counts.choosers (candidate_of day (level_down day i))

-- a set's 'sum of min'
unfoldable pub min_sum : SetsDay → CriticalSet → ℕ
min_sum day set =
    sum_below day.counts.choices λ choice. cond (has set.members choice) (get_or day.mins choice 0) 0

-- the most that a kept set's sum of min may be: 'H*(S-1), 0 for S = 0', since of numbers 0 - 1 is 0
unfoldable pub room_of : SetsDay → ℕ
room_of day = day.counts.choosers * (day.counts.slots - 1)

-- the set is covered by the other: 'covered: level not higher, and a superset'
unfoldable pub covered_by : CriticalSet → CriticalSet → Bool
covered_by other set = leb set.level other.level && within other.members set.members

-- a set is 'skipped if its sum of min exceeds H*(S-1), 0 for S = 0, or a kept set covers it'
unfoldable pub skipped : SetsDay → List CriticalSet → CriticalSet → Bool
skipped day kept set = ltb (room_of day) (min_sum day set) || any_of (λ other. covered_by other set) kept

-- the candidates one after the other, each skipped or kept
unfoldable pub kept_from : SetsDay → List CriticalSet → List CriticalSet → List CriticalSet
kept_from day kept [] = kept
kept_from day kept (set ∷ sets) = kept_from day (cond (skipped day kept set) kept (kept ++ (set ∷ []))) sets

-- the sets that are kept of a day
unfoldable pub kept_sets : SetsDay → List CriticalSet
kept_sets day = kept_from day [] (candidates day)

-- one and the same set: 'the other sets' are those that differ in level or choices
unfoldable pub same_set : CriticalSet → CriticalSet → Bool
same_set one other = eqb one.level other.level && same_choices one.members other.members

-- a set that stays beside the one at the index: it is that one, or isn't covered by it
unfoldable pub stays_beside : CriticalSet → CriticalSet → Bool
stays_beside here set = same_set here set || not (covered_by here set)

-- no set: what is read past the end of a list of sets
abbrev pub no_set : CriticalSet
no_set = critical_set 0 0

-- at one index 'drop the other sets covered by the one there'
unfoldable pub dropped_at : ℕ → List CriticalSet → List CriticalSet
dropped_at index sets = keep (stays_beside (get_or sets index no_set)) sets

-- 'at each index drop the other sets covered by the one there, then index plus 1, though drops have shifted
-- the list'; with so many indices left to look at
unfoldable pub simplified_from : ℕ → ℕ → List CriticalSet → List CriticalSet
simplified_from zero index sets = sets
simplified_from (suc left) index sets =
    cond (ltb index (length sets)) (simplified_from left (index + 1) (dropped_at index sets)) sets

-- simplifying, from the first index on: no list grows, so there are no more indices than sets
unfoldable pub simplified : List CriticalSet → List CriticalSet
simplified sets = simplified_from (length sets) 0 sets
