-- The two parts of the test of lengths.
use Rattle.std.specs.Prelude.{Bool, ◌&&◌, List, ℕ, ◌*◌, eqb, length}
use Rattle.plan_check.specs.Feasible.{lengths_fit}
use Rattle.search_map.specs.Calls.{map_full}
use Rattle.search_meaning.specs.Given.{Given}

-- what has an entry for each choice, level or preference
unfoldable pub day_lengths : Given → List ℕ → Bool
day_lengths given before =
    lengths_fit given.counts.choices given.mins given.maxs given.optional before
    && eqb (length given.levels) given.counts.levels
    && eqb (length given.preferences) (given.counts.choosers * given.counts.choices)

-- the rows, the map's pools and the whole list
unfoldable pub row_lengths : Given → Bool
row_lengths given =
    eqb (length given.rows) given.counts.rows
    && map_full given.map
    && eqb (length given.whole) given.counts.rows
