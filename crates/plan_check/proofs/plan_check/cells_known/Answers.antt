-- A feasible plan's cells fit, by what the caller knows.
use mathlib.Core.Path.{sym}
use Rattle.plan_check.proofs.plan_check.cells_known.Goals as goal

pub returns-then-feasible : goal.returns-then-feasible
returns-then-feasible c =
    sym (c.requires c.if-feasible.true)
