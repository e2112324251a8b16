-- The column that leaves is one of the basis.
use Rattle.std.proofs.Common.{◌<◌, IfSome, length}
use Rattle.list_weights.proofs.simplex.leaving_row.Given as goal

abbrev pub invariant-loop-row : goal.invariant-loop-row
invariant-loop-row l = IfSome l.leaving (λ row. row < length l.values)
