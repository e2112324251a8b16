-- The lack never grows.
use Rattle.std.proofs.Common.{◌≤◌}
use Rattle.list_weights.proofs.lightest.take_lightest.Given as goal

abbrev pub invariant-loop-choice : goal.invariant-loop-choice
invariant-loop-choice l = l.lack ≤ 200
