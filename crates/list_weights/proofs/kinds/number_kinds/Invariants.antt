-- No more kinds are known than choices were looked at.
use Rattle.std.proofs.Common.{◌≤◌}
use Rattle.list_weights.proofs.kinds.number_kinds.Given as goal

abbrev pub invariant-loop-choice : goal.invariant-loop-choice
invariant-loop-choice l = l.known ≤ l.choice
