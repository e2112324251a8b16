-- Each way past the shape, and the entry.
use native.Mathlib.Omega.{arith}
use mathlib.Core.Path.{◌∙◌}
use Rattle.list_tables.proofs.TableLaws.{entry-table, entry-from, entry-lack, entry_in}
use Rattle.list_tables.proofs.entry.least_at.Goals as goal

pub returns-then-table-ge4 : goal.returns-then-table-ge4
returns-then-table-ge4 c =
    (entry-table _ _ _ _ c.if-table-ge4.true, omega arith)

pub returns-then-from-ge65 : goal.returns-then-from-ge65
returns-then-from-ge65 c =
    (entry-from _ _ _ _ c.if-table-ge4.false c.if-from-ge65.true, omega arith)

pub returns-then-lack-ge201 : goal.returns-then-lack-ge201
returns-then-lack-ge201 c =
    (entry-lack _ _ _ _ c.if-table-ge4.false c.if-from-ge65.false c.if-lack-ge201.true, omega arith)

pub returns : goal.returns
returns c =
    (c.from.ensures ∙ entry_in _ _ _ _ c.if-table-ge4.false c.if-from-ge65.false c.if-lack-ge201.false, (omega arith))
