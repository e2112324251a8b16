-- The best kind so far is a known one.
use Rattle.std.proofs.Common.{◌<◌, IfSome, length}
use Rattle.list_weights.proofs.absent.next_smaller.Given as goal

abbrev pub invariant-loop-kind : goal.invariant-loop-kind
invariant-loop-kind l = IfSome l.best (λ b. b < length l.sizes)
