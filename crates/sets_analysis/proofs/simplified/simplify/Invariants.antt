-- The loop's invariant: simplifying what is left from here gives the whole simplified.
use Prim.Native.Nat.{◌-◌}
use lib.ListN.{length}
use Rattle.sets_analysis.proofs.SimplifiedSteps.{Simplifies}
use Rattle.sets_analysis.proofs.simplified.simplify.Given as goal

abbrev pub invariant-loop-index : goal.invariant-loop-index
invariant-loop-index l = Simplifies (length l.initial.masks) l.initial.masks l.initial.levels l.left l.index l.masks l.levels

abbrev pub decreases-loop-index : goal.decreases-loop-index
decreases-loop-index l = l.left - l.index
