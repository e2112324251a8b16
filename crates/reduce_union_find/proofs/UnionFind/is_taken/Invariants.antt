-- The invariant: every entry passed is sound.
use mathlib.Core.Path.{◌≡◌}
use mathlib.Core.Bool.{true}
use Rattle.base_lists.specs.Below.{all_below}
use Rattle.reduce_union_find.specs.State.{sound_at}
use Rattle.reduce_union_find.proofs.UnionFind.is_taken.Given as goal

abbrev pub invariant-loop-i : goal.invariant-loop-i
invariant-loop-i l =
    all_below l.i (sound_at l.choices l.self) ≡ true
