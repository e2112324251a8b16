use Rattle.list_tables.proofs.LightestFillLaws.{first_more}
use Rattle.list_tables.proofs.lightest_fill.fill_each.Goals as goal

pub loop-table-preserved : goal.loop-table-preserved
loop-table-preserved c =
    (first_more _ _ _ _ _ c.requires.0 c.loop-table-test.true c.loop-table.invariant c.fill_table.ensures)
