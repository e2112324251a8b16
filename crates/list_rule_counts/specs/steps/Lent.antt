-- The counts' rules by what the code is lent: the figures of a start, and the bounds of its slots.
use Rattle.std.specs.Prelude.{Bool, List, ℕ}
use Rattle.day_rows.specs.declared.check.Counts.{Counts}
use Rattle.list_tables.specs.steps.Tables.{entry_at}
use Rattle.list_rule_tables.specs.declared.figures.Figures.{Figures}
use Rattle.list_rule_counts.specs.steps.CountRule.{broken, wants_of, rooms_below, counts_rule}
use Rattle.list_rule_counts.specs.declared.bounds.Bounds.{Bounds}

-- some slot's least count is one that it can't have
abbrev pub broken_by : Figures → Counts → List ℕ → ℕ → List ℕ → Bool
broken_by figures counts rows from domains =
    broken (entry_at figures.tables.now) counts rows from figures.lacks.now domains

-- how many free choices each slot has at least
abbrev pub wants_by : Figures → Counts → List ℕ → ℕ → List ℕ → List ℕ
wants_by figures counts rows from domains =
    wants_of (entry_at figures.tables.now) counts rows from figures.lacks.now domains

-- the rooms of the first so many slots, one slot after the other, from the first free choice on
abbrev pub rooms_by : Figures → List ℕ → ℕ → List ℕ → ℕ → ℕ → List ℕ → List ℕ
rooms_by figures rooms choices maxs from slot domains =
    rooms_below (entry_at figures.tables.now) choices maxs figures.free from figures.lacks.now rooms slot domains

-- what the counts leave of the domains
abbrev pub counts_leave : Figures → Bounds → Counts → List ℕ → List ℕ → List ℕ
counts_leave figures bounds counts maxs domains =
    counts_rule (entry_at figures.tables.now) counts maxs figures.free figures.lacks.now bounds.wants bounds.rooms
    domains
