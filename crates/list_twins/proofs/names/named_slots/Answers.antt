use native.Mathlib.Omega.{arith}
use Rattle.list_twins.proofs.NameLaws.{named_start, named_step, named-done}
use Rattle.list_twins.proofs.names.named_slots.Goals as goal

pub loop-number-init : goal.loop-number-init
loop-number-init c =
    named_start _

pub loop-number-preserved : goal.loop-number-preserved
loop-number-preserved c =
    named_step _ _ _ _ _ _ (omega arith) c.loop-number.invariant c.names_of.ensures c.either-names.ensures

pub returns : goal.returns
returns c =
    named-done _ _ c.loop-number.number-index _ (omega arith) (omega arith) c.loop-number.invariant
