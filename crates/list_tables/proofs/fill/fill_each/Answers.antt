use Rattle.list_tables.proofs.TableLaws.{first_more}
use Rattle.list_tables.proofs.fill.fill_each.Goals as goal

pub loop-table-preserved : goal.loop-table-preserved
loop-table-preserved c =
    (first_more _ _ _ _ _ _ c.requires.0.0 c.requires.0.1 c.loop-table-test.true c.loop-table.invariant c.fill_table.ensures)
