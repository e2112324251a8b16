-- The invariant: the classes of the roots passed stand in the pools.
use lib.ListN.{get_or}
use Rattle.base_lists.proofs.Group.{groups_to}
use Rattle.reduce_union_find.proofs.Writing.{Written}
use Rattle.reduce_union_find.proofs.write_groups.Given as goal

abbrev pub invariant-loop-root : goal.invariant-loop-root
invariant-loop-root l =
    Written (groups_to l.root l.choices (λ k. get_or l.roots k 0)) l.count l.at l.members l.ends
