-- The loop's invariant: joining what is left gives what joining all gives.
use Rattle.reduce_added.proofs.Joining.{JoinsFrom}
use Rattle.reduce_added.proofs.groups.join_rows.Given as goal

abbrev pub invariant-loop-row : goal.invariant-loop-row
invariant-loop-row l = JoinsFrom l.choices l.rows l.state l.row-index
