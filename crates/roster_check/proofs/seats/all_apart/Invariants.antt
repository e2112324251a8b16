-- The loop's invariant: the choosers passed have slots that differ.
use mathlib.Core.Path.{◌≡◌}
use mathlib.Core.Bool.{true}
use Rattle.base_lists.specs.Below.{all_below}
use Rattle.roster_rows.specs.Cells.{cells_of}
use Rattle.roster_rows.specs.Seats.{slots_apart}
use Rattle.roster_check.proofs.seats.all_apart.Given as goal

abbrev pub invariant-loop-chooser : goal.invariant-loop-chooser
invariant-loop-chooser l =
    all_below l.chooser (λ k. slots_apart l.sheet.plan.now (cells_of l.sheet.counts.slots l.sheet.roster.now k)) ≡ true
