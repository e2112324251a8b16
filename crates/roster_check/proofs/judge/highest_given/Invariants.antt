-- The loop's invariant: the highest of the preferences passed.
use mathlib.Core.Path.{◌≡◌}
use lib.ListN.{get_or}
use Rattle.roster_check.specs.Roster.{highest_below}
use Rattle.roster_check.proofs.judge.highest_given.Given as goal

abbrev pub invariant-loop-preference : goal.invariant-loop-preference
invariant-loop-preference l =
    l.highest ≡ highest_below l.preference-index (λ k. get_or l.preferences k 0)
