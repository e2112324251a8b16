-- The loop's invariant: each slot's of the choices looked at.
use mathlib.Core.Path.{◌≡◌}
use Rattle.search_candidates.specs.Tests.{held_by}
use Rattle.search_candidates.proofs.stuck.held_by.Given as goal

abbrev pub invariant-loop-choice : goal.invariant-loop-choice
invariant-loop-choice l = l.held ≡ held_by l.choice 24 l.decisions
