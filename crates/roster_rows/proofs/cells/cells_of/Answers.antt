-- The part of the roster that is handed out is the chooser's window of it.
use native.Mathlib.Omega.{arith}
use Rattle.roster_rows.proofs.CellLaws.{cells-past, cells-part, cells-small}
use Rattle.roster_rows.proofs.cells.cells_of.Goals as goal

pub returns-then-roster-chooser : goal.returns-then-roster-chooser
returns-then-roster-chooser c = cells-past _ _ _ _ c.requires.seated c.if-roster-chooser.true

pub overflow_mul-from : goal.overflow_mul-from
overflow_mul-from c = omega (arith, cells-small _ _ _ _ c.requires.seated c.if-roster-chooser.false)

pub overflow_add-end : goal.overflow_add-end
overflow_add-end c = omega (arith, cells-small _ _ _ _ c.requires.seated c.if-roster-chooser.false)

pub returns : goal.returns
returns c = cells-part _ _ _
