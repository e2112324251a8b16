-- The loop's invariant: what is asked of the rest is what is asked of all of it.
use Rattle.std.proofs.Common.{◌≡◌, drop}
use Rattle.test_cases.specs.steps.Buffers.{filled}
use Rattle.test_cases.proofs.is_filled.Given as goal

abbrev pub invariant-loop-i : goal.invariant-loop-i
invariant-loop-i l = filled l.byte (drop l.i l.bytes) ≡ filled l.byte (drop l.from l.bytes)
