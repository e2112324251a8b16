-- The refusals of a search that its input alone decides, lowest number first.
use Rattle.std.specs.Prelude.{Bool, ◌&&◌, List, ℕ, ◌*◌, eqb, leb, length}
use Rattle.base_lists.specs.All.{all_at_most}
use Rattle.day_rows.specs.Check.{counts_in_range, rows_judged}
use Rattle.day_rows.specs.declared.check.Takes.TheVariants.{Scheduling}
use Rattle.day_rows.specs.Told.{Verdict, good, unless, and_then}
use Rattle.day_rows.specs.Levels.{levels_in_range, levels_rise, last_level}
use Rattle.plan_check.specs.Feasible.{lengths_fit}
use Rattle.plan_check.specs.Check.{flags_judged}
use Rattle.search_map.specs.Map.{map_keeps}
use Rattle.search_map.specs.Calls.{map_full}
use Rattle.search_order.specs.Order.{orders_keep}
use Rattle.search_meaning.specs.Given.{Given, row_counts}
use Rattle.search_meaning.specs.declared.counts.SearchCounts.{SearchCounts}

-- 1: 'a count is outside its range'
unfoldable pub search_in_range : SearchCounts → Bool
search_in_range counts =
    counts_in_range (row_counts counts) Scheduling && levels_in_range counts.levels
    && leb counts.numbers 10240

-- 2: 'a lent slice has the wrong length'
unfoldable pub search_lengths : Given → List ℕ → Bool
search_lengths given before =
    lengths_fit given.counts.choices given.mins given.maxs given.optional before
    && eqb (length given.levels) given.counts.levels
    && eqb (length given.preferences) (given.counts.choosers * given.counts.choices)
    && eqb (length given.rows) given.counts.rows
    && map_full given.map
    && eqb (length given.whole) given.counts.rows

-- the refusals of the day: 1, 2, 3, 4, 5 with the first bad row
unfoldable pub day_judged : Given → List ℕ → Verdict
day_judged given before =
    unless (search_in_range given.counts) 1
    (unless (search_lengths given before) 2
    (unless (levels_rise given.levels) 3
    (unless (all_at_most (last_level given.levels) given.preferences) 4
    (rows_judged (row_counts given.counts) Scheduling given.rows))))

-- the refusals of what is lent beside the day: 8, 13, 14
unfoldable pub lent_judged : Given → Verdict
lent_judged given =
    unless (orders_keep given.counts.choices given.orders) 8
    (and_then (flags_judged given.optional)
    (unless
    (map_keeps given.counts.choices given.counts.rows given.counts.numbers
    given.map given.whole)
    14 good))
