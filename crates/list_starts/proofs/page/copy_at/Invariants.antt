-- The invariant: the rest of the plan, written from here on, makes what the whole plan makes.
use mathlib.Core.Path.{◌≡◌}
use Prim.Native.Nat.{◌+◌}
use lib.ListN.{length, drop}
use lib.Seq.{sets}
use Rattle.list_starts.proofs.page.copy_at.Given as goal

abbrev pub invariant-loop-i : goal.invariant-loop-i
invariant-loop-i l =
    (length l.buffer ≡ length l.initial.buffer) × (sets l.buffer (l.at + l.i) (drop l.i l.plan) ≡ sets l.initial.buffer l.at l.plan)
