-- The rules by what the code is lent: the figures of a start, and what one table is asked.
use Rattle.std.specs.Prelude.{Bool, List, ℕ, max}
use Rattle.day_rows.specs.declared.check.Counts.{Counts}
use Rattle.list_tables.specs.steps.Tables.{entry_at, weight_at}
use Rattle.list_tables.specs.steps.Lightest.{lightest_at}
use Rattle.list_rule_tables.specs.steps.Rule.{needed, slot_stays, weighed_places, table_rule, tables_below, tables_rule}
use Rattle.list_rule_tables.specs.declared.figures.Figures.{Figures}
use Rattle.list_rule_tables.specs.declared.weighed.OneTable.{OneTable}
use Rattle.list_rule_tables.specs.declared.weighed.Weighed.{Weighed}

-- what choices weigh at the least that fill a lack and are so many
abbrev pub weighs : OneTable → ℕ → ℕ → ℕ
weighs one lack want =
    max (entry_at one.tables.now one.table one.from lack) (lightest_at one.tables.now one.table one.from want)

-- what the slots need together
abbrev pub needed_by : OneTable → ℕ → ℕ
needed_by one slots =
    needed (entry_at one.tables.now) (lightest_at one.tables.now) slots one.table one.from
    one.lacks.now one.wants.now

-- whether a slot of a domain stays
abbrev pub stays_by : OneTable → Weighed → ℕ → ℕ → ℕ → ℕ → Bool
stays_by one weighed weight most domain slot =
    slot_stays (entry_at one.tables.now) (lightest_at one.tables.now) one.table one.from one.lacks.now one.wants.now
    weight most weighed.need weighed.spare domain slot

-- what is left of a free choice's domain
abbrev pub places_by : OneTable → Weighed → ℕ → ℕ → ℕ → ℕ → ℕ
places_by one weighed slots weight most domain =
    weighed_places (entry_at one.tables.now) (lightest_at one.tables.now) slots one.table one.from
    one.lacks.now one.wants.now weight most weighed.need weighed.spare domain

-- one table's rule for one choice
abbrev pub rule_by : OneTable → Counts → List ℕ → ℕ → ℕ → ℕ → ℕ
rule_by one counts maxs free choice domain =
    table_rule (entry_at one.tables.now) (lightest_at one.tables.now) (weight_at one.tables.now) counts maxs
    one.table free one.from one.lacks.now one.wants.now choice domain

-- the first tables one after the other, from the first free choice on
abbrev pub tables_by : Figures → List ℕ → Counts → List ℕ → ℕ → ℕ → List ℕ → List ℕ
tables_by figures wants counts maxs from table domains =
    tables_below (entry_at figures.tables.now) (lightest_at figures.tables.now) (weight_at figures.tables.now)
    counts maxs figures.free from figures.lacks.now wants table domains

-- what the tables leave of the domains
abbrev pub tables_leave : Figures → List ℕ → Counts → List ℕ → List ℕ → List ℕ
tables_leave figures wants counts maxs domains =
    tables_rule (entry_at figures.tables.now) (lightest_at figures.tables.now) (weight_at figures.tables.now)
    counts maxs figures.free figures.lacks.now wants domains
