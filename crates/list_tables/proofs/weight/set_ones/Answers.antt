use mathlib.Core.Path.{refl}
use native.Mathlib.Omega.{arith}
use Rattle.list_tables.specs.steps.Tables.{written}
use Rattle.list_tables.proofs.TableLaws.{ones_step, ones-done}
use Rattle.list_tables.proofs.weight.set_ones.Goals as goal

pub loop-choice-init : goal.loop-choice-init
unfolding written
loop-choice-init c =
    refl

pub loop-choice-preserved : goal.loop-choice-preserved
loop-choice-preserved c =
    ones_step _ _ _ c.loop-choice.invariant

pub returns : goal.returns
returns c =
    ones-done _ _ _ (omega (arith, c.loop-choice-test.false)) c.loop-choice.invariant
