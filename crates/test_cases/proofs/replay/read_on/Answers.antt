-- Less may come after each read, and the tally is as the end of the file leaves it.
use Rattle.std.proofs.Common.{refl, inl, arith}
use Rattle.test_cases.proofs.TallyLaws.{closes}
use Rattle.test_cases.proofs.replay.read_on.Goals as goal

pub returns-then-left-eq0 : goal.returns-then-left-eq0
returns-then-left-eq0 c = (omega (arith, c.if-left-eq0.true), inl refl)

pub returns-in_default : goal.returns-in_default
returns-in_default c = (omega arith, inl refl)

pub returns-in_default-next : goal.returns-in_default-next
returns-in_default-next c = (omega arith, rw c.ended-closed.ensures (closes _ _))

pub returns : goal.returns
returns c = (omega arith, inl refl)
