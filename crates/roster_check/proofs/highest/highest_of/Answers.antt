use borrow.Author.Rules.{rules}
use native.Mathlib.Omega.{arith}
use Rattle.roster_check.proofs.HighestLaws.{highest-none, highest-more, highest-done, met_at}
use Rattle.roster_check.proofs.highest.highest_of.Goals as goal

pub loop-cell-init : goal.loop-cell-init
loop-cell-init c =
    highest-none _

pub overflow_add-from : goal.overflow_add-from
overflow_add-from c =
    omega (arith, c.requires)

pub loop-cell-preserved : goal.loop-cell-preserved
loop-cell-preserved c =
    highest-more _ _ c.loop-cell.invariant (met_at c.args.preferences.now c.args.cells.now c.args.from c.loop-cell.cell-index c.preference_at-met.ensures c.from.ensures) (search rules)

pub returns : goal.returns
returns c =
    highest-done _ _ _ (omega arith) c.loop-cell-test.false c.loop-cell.invariant
