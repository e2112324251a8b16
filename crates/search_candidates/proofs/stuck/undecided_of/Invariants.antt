-- The loop's invariant: the undecided among the choices looked at.
use mathlib.Core.Path.{◌≡◌}
use Rattle.search_candidates.specs.Tests.{undecided_of}
use Rattle.search_candidates.proofs.stuck.undecided_of.Given as goal

abbrev pub invariant-loop-choice : goal.invariant-loop-choice
invariant-loop-choice l = l.undecided ≡ undecided_of l.choice l.decisions
