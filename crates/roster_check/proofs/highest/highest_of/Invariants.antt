-- The loop's invariant: the highest of the cells passed.
use mathlib.Core.Path.{◌≡◌}
use Prim.Native.Nat.{◌+◌}
use lib.ListN.{get_or}
use Rattle.roster_check.specs.Roster.{highest_below}
use Rattle.roster_check.proofs.highest.highest_of.Given as goal

abbrev pub invariant-loop-cell : goal.invariant-loop-cell
invariant-loop-cell l =
    l.highest ≡ highest_below l.cell-index (λ k. get_or l.preferences (l.from + get_or l.cells k 0) 0)
