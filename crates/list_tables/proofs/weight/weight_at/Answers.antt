-- Each way past the shape, and the weight.
use mathlib.Core.Path.{◌∙◌}
use native.Mathlib.Omega.{arith}
use Rattle.list_tables.proofs.TableLaws.{weight_table, weight_choice, weight_in}
use Rattle.list_tables.proofs.weight.weight_at.Goals as goal

pub returns-then-table-ge4 : goal.returns-then-table-ge4
returns-then-table-ge4 c =
    (weight_table _ _ _ c.if-table-ge4.true, omega arith)

pub returns-then-choice-ge64 : goal.returns-then-choice-ge64
returns-then-choice-ge64 c =
    (weight_choice _ _ _ c.if-table-ge4.false c.if-choice-ge64.true, omega arith)

pub returns : goal.returns
returns c =
    (c.from.ensures ∙ weight_in _ _ _ c.if-table-ge4.false c.if-choice-ge64.false, (omega arith))
