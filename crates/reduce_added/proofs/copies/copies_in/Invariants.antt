-- Nothing in another group; else the loop's invariant: it is the same end, and what is left to store gives what
-- was to store.
use mathlib.Core.Path.{◌≡◌}
use Rattle.base_lists.proofs.Stores.{Each}
use Rattle.reduce_added.specs.Copies.{copy_to}
use Rattle.reduce_added.proofs.copies.copies_in.Given as goal

abbrev pub invariant-loop-member : goal.invariant-loop-member
invariant-loop-member l =
    (l.free.rows.ghost_name ≡ l.initial.free.rows.ghost_name) × Each (copy_to l.row) l.group l.initial.free.rows.now l.initial.free.at l.free.rows.now l.free.at l.member-index
