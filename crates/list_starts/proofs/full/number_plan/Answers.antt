-- No number is left for the plan, or one plan more.
use native.Mathlib.Omega.{arith}
use Rattle.list_starts.proofs.FullLaws.{no_number, numbered}
use Rattle.list_starts.proofs.full.number_plan.Goals as goal

pub returns-then-total-ge18446744073709551615 : goal.returns-then-total-ge18446744073709551615
returns-then-total-ge18446744073709551615 c = no_number _ _ _ _ _ (omega (arith, c.if-total-ge18446744073709551615.true))

pub overflow_add-total : goal.overflow_add-total
overflow_add-total c =
    record { fits = omega (arith, c.if-total-ge18446744073709551615.false) }

pub returns : goal.returns
returns c =
    numbered _ _ _ _ _ (omega (arith, c.if-total-ge18446744073709551615.false)) c.put_plan.ensures
