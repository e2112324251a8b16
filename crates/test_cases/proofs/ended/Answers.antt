-- In each arm it is known what the next record was.
use Rattle.std.proofs.Common.{inl, inr}
use Rattle.test_cases.specs.steps.Tallies.{closed}
use Rattle.test_cases.proofs.ended.Goals as goal

pub returns-in-Record : goal.returns-in-Record
unfolding closed
returns-in-Record c =
    elim c.in-Record.is [ inl some ↦ rw some.1 | inr end ↦ rw end ]

pub returns-in-Broken : goal.returns-in-Broken
unfolding closed
returns-in-Broken c =
    rw c.in-Broken.is c.with.ensures
