-- What is stored is what `hung` says.
use Rattle.reduce_union_find.specs.State.{hung}
use Rattle.reduce_union_find.proofs.Linking.{byte-holds}
use Rattle.reduce_union_find.proofs.UnionFind.hang.Goals as goal

pub returns : goal.returns
unfolding hung
returns c = rw (c.raised-height.ensures, byte-holds _ c.requires.left_height)
