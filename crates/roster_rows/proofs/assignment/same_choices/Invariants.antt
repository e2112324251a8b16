-- The loop's invariant: the choices passed stand equally often in both tallies.
use mathlib.Core.Path.{◌≡◌}
use mathlib.Core.Bool.{true}
use lib.Dec.{eqb}
use Rattle.base_lists.specs.Below.{all_below}
use Rattle.base_lists.specs.Group.{times_in}
use Rattle.roster_rows.specs.Cells.{cells_of}
use Rattle.roster_rows.proofs.assignment.same_choices.Given as goal

abbrev pub invariant-loop-choice : goal.invariant-loop-choice
invariant-loop-choice l =
    all_below l.choice (λ k. eqb (times_in k (cells_of l.roster.slots l.roster.cells.now l.left)) (times_in k (cells_of l.roster.slots l.roster.cells.now l.right))) ≡ true
