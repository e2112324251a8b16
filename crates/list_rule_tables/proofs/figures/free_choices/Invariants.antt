-- The loop's invariant: the free choices of those passed.
use Rattle.list_rule_tables.specs.steps.Figures.{free_of}
use mathlib.Core.Path.{◌≡◌}
use Rattle.list_rule_tables.proofs.figures.free_choices.Given as goal

abbrev pub invariant-loop-choice : goal.invariant-loop-choice
invariant-loop-choice l =
    l.free ≡ free_of l.choice l.domains
