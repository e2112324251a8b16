-- The invariant: every place passed holds its element's root.
use mathlib.Core.Path.{◌≡◌}
use Prim.Native.Nat.{ℕ, ◌<◌}
use lib.ListN.{length, get_or}
use Rattle.reduce_union_find.specs.State.{climb}
use Rattle.reduce_union_find.proofs.roots_of.Given as goal

abbrev pub invariant-loop-i : goal.invariant-loop-i
invariant-loop-i l =
    (length l.roots ≡ 64) × ((k : ℕ) → k < l.i → get_or l.roots k 0 ≡ climb 64 l.parents k)
