-- The loop's invariant: the answer from here is the answer from the start.
use mathlib.Core.Path.{◌≡◌}
use lib.Dec.{eqb}
use lib.ListN.{drop}
use Rattle.base_lists.specs.Keep.{any_of}
use Rattle.reduce_added.proofs.copies.holds.Given as goal

abbrev pub invariant-loop-member : goal.invariant-loop-member
invariant-loop-member l = any_of (eqb l.choice) l.group ≡ any_of (eqb l.choice) (drop l.member-index l.group)
