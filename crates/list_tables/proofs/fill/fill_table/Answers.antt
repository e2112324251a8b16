use native.Mathlib.Omega.{arith}
use Rattle.list_tables.proofs.TableLaws.{filled-last, filled_row, filled-rows}
use Rattle.list_tables.proofs.fill.fill_table.Goals as goal

pub loop-from-init : goal.loop-from-init
loop-from-init c =
    (filled-last _ _ _ _ _ c.requires.choices_bound.0.0 c.requires.choices_bound.0.1 c.requires.choices_bound.1.0 c.requires.tables_len c.fill_last.ensures)

pub loop-from-preserved : goal.loop-from-preserved
loop-from-preserved c =
    (filled_row _ _ _ _ _ _ _ _ _ _ c.requires.choices_bound.0.0 c.requires.choices_bound.0.1 c.requires.choices_bound.1.0 (omega (arith, c.loop-from-test.true)) (omega (arith, c.loop-from-test.true)) c.weight_at-weight.ensures.0 c.from-most.ensures c.loop-from.invariant c.fill_row.ensures)

pub returns : goal.returns
returns c =
    filled-rows _ _ _ _ _ _ _ c.requires.choices_bound.0.0 c.requires.choices_bound.0.1 c.requires.choices_bound.1.0 c.requires.tables_len c.fill_last.ensures (omega (arith, c.loop-from-test.false)) c.loop-from.invariant
