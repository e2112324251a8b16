-- The loop's invariant: every choice before this one has a place.
use mathlib.Core.Path.{◌≡◌}
use mathlib.Core.Bool.{true}
use Rattle.list_look.specs.steps.Look.{alive}
use Rattle.list_look.proofs.alive.is_alive.Given as goal

abbrev pub invariant-loop-choice : goal.invariant-loop-choice
invariant-loop-choice l =
    alive l.choice l.domains ≡ true
