-- The loop's invariant: what is left to store gives what was to store. The needs stand in the code's order;
-- those of a turn are told by the law of `Cutting`.
use mathlib.Core.Path.{◌≡◌}
use Rattle.base_lists.proofs.Cut.{Cuts}
use Rattle.reduce_added.specs.Copies.{copies_in}
use Rattle.reduce_added.proofs.copies.copies_of.Given as goal

abbrev pub invariant-loop-byte : goal.invariant-loop-byte
invariant-loop-byte l =
    (l.free.rows.ghost_name ≡ l.initial.free.rows.ghost_name) × Cuts (copies_in l.row) l.groups.ends.now l.members l.initial.free.rows.now l.initial.free.at l.free.rows.now l.free.at l.start l.byte-index
