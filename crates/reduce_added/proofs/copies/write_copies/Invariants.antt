-- The loop's invariant: what is left to store gives what was to store.
use Rattle.reduce_added.specs.steps.Fit.{groups_lent}
use mathlib.Core.Path.{◌≡◌}
use Rattle.base_lists.proofs.Stores.{Each}
use Rattle.reduce_added.specs.Copies.{copies_of}
use Rattle.reduce_added.proofs.copies.write_copies.Given as goal

abbrev pub invariant-loop-row : goal.invariant-loop-row
invariant-loop-row l =
    (l.end.rows.ghost_name ≡ l.initial.end.rows.ghost_name) × Each (copies_of (groups_lent l.groups)) l.rows l.initial.end.rows.now l.initial.end.at l.end.rows.now l.end.at l.row-index
