-- The loop's invariant: the first choices weigh 1.
use mathlib.Core.Path.{◌≡◌}
use Rattle.list_tables.specs.steps.Tables.{written}
use Rattle.list_tables.proofs.weight.set_ones.Given as goal

abbrev pub invariant-loop-choice : goal.invariant-loop-choice
invariant-loop-choice l =
    l.tables ≡ written l.choice 52260 (λ x. 1) l.initial.tables
