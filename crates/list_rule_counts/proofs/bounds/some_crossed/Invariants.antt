-- The loop's invariant: of the slots passed each least count is one that the slot can have.
use mathlib.Core.Path.{◌≡◌}
use mathlib.Core.Bool.{true}
use lib.Dec.{ltb}
use lib.ListN.{get_or}
use Rattle.base_lists.specs.Below.{all_below}
use Rattle.list_rule_counts.proofs.bounds.some_crossed.Given as goal

abbrev pub invariant-loop-slot : goal.invariant-loop-slot
invariant-loop-slot l =
    all_below l.slot (λ s. ltb (get_or l.least s 0) (get_or l.under s 0)) ≡ true
