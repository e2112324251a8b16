-- Each way past the shape, and the entry.
use native.Mathlib.Omega.{arith}
use mathlib.Core.Path.{◌∙◌}
use Rattle.list_tables.proofs.LightestLaws.{lightest-none, lightest-table, lightest-from, lightest-count, lightest_in}
use Rattle.list_tables.proofs.lightest_entry.lightest_at.Goals as goal

pub returns-then-count-eq0 : goal.returns-then-count-eq0
returns-then-count-eq0 c =
    (lightest-none _ _ _ _ c.if-count-eq0.true, omega arith)

pub returns-then-table-ge4 : goal.returns-then-table-ge4
returns-then-table-ge4 c =
    (lightest-table _ _ _ _ c.if-count-eq0.false c.if-table-ge4.true, omega arith)

pub returns-then-from-ge65 : goal.returns-then-from-ge65
returns-then-from-ge65 c =
    (lightest-from _ _ _ _ c.if-count-eq0.false c.if-table-ge4.false c.if-from-ge65.true, omega arith)

pub returns-then-count-ge65 : goal.returns-then-count-ge65
returns-then-count-ge65 c =
    (lightest-count _ _ _ _ c.if-count-eq0.false c.if-table-ge4.false c.if-from-ge65.false c.if-count-ge65.true, omega arith)

pub returns : goal.returns
returns c =
    (c.from.ensures ∙ lightest_in _ _ _ _ c.if-count-eq0.false c.if-table-ge4.false c.if-from-ge65.false c.if-count-ge65.false, (omega arith))
