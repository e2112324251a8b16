-- The loop's invariant: the ends from here on decide.
use mathlib.Core.Path.{◌≡◌}
use lib.ListN.{drop}
use Rattle.reduce_added.specs.steps.Fit.{ends_fit}
use Rattle.reduce_added.proofs.groups.ends_fit.Given as goal

abbrev pub invariant-loop-byte : goal.invariant-loop-byte
invariant-loop-byte l = ends_fit l.start (drop l.byte-index l.ends) l.size ≡ ends_fit 0 l.ends l.size
