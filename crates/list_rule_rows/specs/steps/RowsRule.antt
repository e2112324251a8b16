-- What every row of a list leaves of the domains, one after the other.
use Rattle.std.specs.Prelude.{cond, List, [], ◌∷◌, ℕ, eqb}
use Rattle.day_rows.specs.Row.{row_of}
use Rattle.day_rows.specs.declared.row.Row.{Row}
use Rattle.day_rows.specs.declared.check.Counts.{Counts}
use Rattle.list_rule_slots.specs.steps.SlotRules.{limit_rule}
use Rattle.list_rule_rows.specs.steps.RowRules.{row_rule}

-- what a row leaves of the domains: a limit narrows every choice's, one of another kind
-- those of the choices that it names
unfoldable pub any_rule : Counts → Row → List ℕ → List ℕ
any_rule counts row domains =
    cond (eqb row.kind 6) (limit_rule counts row domains)
    (row_rule counts.choices counts.slots row domains)

-- what the rows in order leave of the domains, each with what those before it left
unfoldable pub rows_rule : Counts → List ℕ → List ℕ → List ℕ
rows_rule counts [] domains = domains
rows_rule counts (number ∷ rows) domains = rows_rule counts rows (any_rule counts (row_of number) domains)
