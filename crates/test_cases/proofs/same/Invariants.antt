-- The loop's invariant: what is compared so far is equal.
use Rattle.std.proofs.Common.{◌≡◌, ◌≤◌, true}
use Rattle.test_cases.specs.steps.Alike.{alike}
use Rattle.test_cases.proofs.same.Given as goal

abbrev pub invariant-loop-i : goal.invariant-loop-i
invariant-loop-i l = (l.i ≤ l.n) × (alike l.one l.from l.other l.at l.i ≡ true)
