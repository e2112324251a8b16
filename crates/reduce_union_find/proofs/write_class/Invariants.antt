-- The invariant: the elements passed that belong to the class stand in the pool, from the first place on.
use lib.ListN.{get_or}
use Rattle.reduce_union_find.proofs.Writing.{Class}
use Rattle.reduce_union_find.proofs.write_class.Given as goal

abbrev pub invariant-loop-i : goal.invariant-loop-i
invariant-loop-i l =
    Class (λ k. get_or l.roots k 0) l.root l.from l.initial.members l.i l.at l.members
