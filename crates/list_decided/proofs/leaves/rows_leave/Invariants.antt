-- The loop's invariant: what is left is what the first i rows leave.
use mathlib.Core.Path.{◌≡◌}
use Prim.Native.Nat.{◌≤◌}
use lib.ListN.{take}
use Rattle.list_decided.specs.steps.Leaves.{rows_leave}
use Rattle.list_decided.proofs.leaves.rows_leave.Given as goal

abbrev pub invariant-loop-i : goal.invariant-loop-i
invariant-loop-i l = (l.i ≤ l.front) × (l.left ≡ rows_leave l.slots l.choice l.plan (take l.i l.rows) l.domain)
