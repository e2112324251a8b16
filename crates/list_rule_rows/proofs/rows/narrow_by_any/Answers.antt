-- A limit by the slots' rule, one of another kind by its own.
use mathlib.Core.Path.{sym, ◌∙◌}
use Rattle.list_rule_rows.proofs.SideLaws.{none_of}
use Rattle.list_rule_rows.proofs.RowsLaws.{any_limit, any_row}
use Rattle.list_rule_rows.proofs.rows.narrow_by_any.Goals as goal

pub returns-then-kind_of-eq-SLOT_HAS_LIMITED_SIZE : goal.returns-then-kind_of-eq-SLOT_HAS_LIMITED_SIZE
returns-then-kind_of-eq-SLOT_HAS_LIMITED_SIZE c = c.narrow_by_limit.ensures ∙ any_limit _ _ _ (sym c.kind_of.ensures ∙ c.if-kind_of-eq-SLOT_HAS_LIMITED_SIZE.true)

pub returns : goal.returns
returns c = c.narrow_by_row.ensures ∙ any_row _ _ _ (none_of c.kind_of.ensures c.if-kind_of-eq-SLOT_HAS_LIMITED_SIZE.false)
