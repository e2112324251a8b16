-- The set is empty, or lies past the choices, or has a first one.
use native.Mathlib.Omega.{arith}
use Rattle.list_rule_tables.proofs.FigureLaws.{first_of-none, first_past, first-is}
use Rattle.list_rule_tables.proofs.figures.first_in.Goals as goal

pub returns-then-first-ge64 : goal.returns-then-first-ge64
returns-then-first-ge64 c = (first_of-none _ _ _ c.lowest_place-first.ensures c.ranges.set.fits c.if-first-ge64.true, omega arith)

pub returns-then-choices-first : goal.returns-then-choices-first
returns-then-choices-first c = (first_past _ _ _ c.lowest_place-first.ensures c.if-first-ge64.false c.if-choices-first.true, omega arith)

pub returns : goal.returns
returns c =
    (first-is _ _ _ c.lowest_place-first.ensures c.if-first-ge64.false c.if-choices-first.false, omega (arith, c.if-choices-first.false))
