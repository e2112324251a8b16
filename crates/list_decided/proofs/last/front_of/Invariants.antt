-- The loop: those passed, and those at the front of the rest, are the whole.
use mathlib.Core.Path.{◌≡◌}
use Prim.Native.Nat.{◌+◌}
use lib.ListN.{drop}
use Rattle.list_decided.specs.steps.Decided.{front_of}
use Rattle.list_decided.proofs.last.front_of.Given as goal

abbrev pub invariant-loop-front : goal.invariant-loop-front
invariant-loop-front l = l.front + front_of l.slots l.choice (drop l.front l.rows) ≡ front_of l.slots l.choice l.rows
