use Rattle.list_rule_rows.proofs.RowsLaws.{rows-turn, rows_end}
use Rattle.list_rule_rows.proofs.rows.narrow_by_rows.Goals as goal

pub loop-number-preserved : goal.loop-number-preserved
loop-number-preserved c = rows-turn _ _ _ _ _ _ c.loop-number-test.true c.loop-number.invariant c.narrow_by_any.ensures

pub returns : goal.returns
returns c = rows_end _ _ _ _ _ c.loop-number-test.false c.loop-number.invariant
