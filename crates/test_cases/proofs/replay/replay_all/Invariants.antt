-- The loop's invariant: no more differ than there are, and a record that may still come is two cases at most.
use Rattle.std.proofs.Common.{◌≤◌, ◌+◌, ◌*◌, ◌^◌}
use Rattle.test_cases.proofs.replay.replay_all.Given as goal

abbrev pub invariant-loop-run : goal.invariant-loop-run
invariant-loop-run g l = (l.run.tally.differ ≤ l.run.tally.cases) × (l.run.tally.cases + 2 * l.run.left ≤ 2 ^ 33)

abbrev pub decreases-loop-run : goal.decreases-loop-run
decreases-loop-run g l = l.run.left
