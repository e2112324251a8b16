-- The loop's invariant: the choosers passed name both choices equally often.
use mathlib.Core.Path.{◌≡◌}
use mathlib.Core.Bool.{true}
use lib.Dec.{eqb}
use Rattle.base_lists.specs.Below.{all_below}
use Rattle.base_lists.specs.Group.{times_in}
use Rattle.roster_rows.specs.Cells.{cells_of}
use Rattle.roster_rows.proofs.assignment.same_choosers.Given as goal

abbrev pub invariant-loop-chooser : goal.invariant-loop-chooser
invariant-loop-chooser l =
    all_below l.chooser (λ k. eqb (times_in l.left (cells_of l.roster.slots l.roster.cells.now k)) (times_in l.right (cells_of l.roster.slots l.roster.cells.now k))) ≡ true
