-- The loop's invariant: the first i are the members.
use mathlib.Core.Path.{◌≡◌}
use lib.ListN.{length, take}
use Rattle.reduce_added.proofs.groups.widened.Given as goal

abbrev pub invariant-loop-i : goal.invariant-loop-i
invariant-loop-i l = (length l.choices ≡ 64) × (take l.i l.choices ≡ take l.i l.members)
