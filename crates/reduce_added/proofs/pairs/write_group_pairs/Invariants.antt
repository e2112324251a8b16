-- The loop's invariant: what is left to store gives what was to store. The needs stand in the code's order;
-- those of a turn are told by the law of `Cutting`.
use mathlib.Core.Path.{◌≡◌}
use Rattle.base_lists.proofs.Cut.{Cuts}
use Rattle.reduce_added.specs.Pairs.{pairs_of}
use Rattle.reduce_added.proofs.pairs.write_group_pairs.Given as goal

abbrev pub invariant-loop-byte : goal.invariant-loop-byte
invariant-loop-byte l =
    (l.pool.rows.ghost_name ≡ l.initial.pool.rows.ghost_name) × Cuts pairs_of l.groups.ends.now l.members l.initial.pool.rows.now l.initial.pool.at l.pool.rows.now l.pool.at l.start l.byte-index
