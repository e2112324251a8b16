-- The invariant: the rest of the bytes, put from here on, makes what all of them make.
use mathlib.Core.Path.{◌≡◌}
use Prim.Native.Nat.{◌+◌}
use lib.ListN.{length, drop}
use lib.Seq.{sets}
use Rattle.text_lines.proofs.put.Pool.put_fitting.Given as goal

abbrev pub invariant-loop-i : goal.invariant-loop-i
invariant-loop-i l =
    (length l.text ≡ length l.initial.text) × (sets l.text (l.from + l.i) (drop l.i l.bytes) ≡ sets l.initial.text l.from l.bytes)
