-- The fresh state, as it is written out.
use mathlib.Core.Path.{refl}
use Rattle.reduce_union_find.specs.State.{fresh}
use Rattle.reduce_union_find.proofs.UnionFind.new.Goals as goal

pub returns : goal.returns
unfolding fresh
returns c = refl
