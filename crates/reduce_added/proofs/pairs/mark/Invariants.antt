-- The loop's invariant: a chooser whose flag is zero has all its choices in the rows that are left.
use mathlib.Core.Path.{◌≡◌}
use lib.ListN.{length}
use Rattle.reduce_added.proofs.Pairing.{Passed}
use Rattle.reduce_added.proofs.pairs.mark.Given as goal

abbrev pub invariant-loop-row : goal.invariant-loop-row
invariant-loop-row l = (length l.named ≡ length l.initial.named) × Passed l.rows l.named l.row-index
