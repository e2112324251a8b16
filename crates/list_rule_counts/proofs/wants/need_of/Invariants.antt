-- The loop's invariant: what the slots passed want, or 65.
use mathlib.Core.Path.{◌≡◌}
use Prim.Native.Nat.{min}
use lib.ListN.{get_or}
use Rattle.base_lists.specs.Below.{sum_below}
use Rattle.list_rule_counts.proofs.wants.need_of.Given as goal

abbrev pub invariant-loop-want : goal.invariant-loop-want
invariant-loop-want l =
    l.need ≡ min (sum_below l.want-index (λ s. get_or l.wants s 0)) 65
