-- The loop's invariant: the slots passed are in order.
use mathlib.Core.Path.{◌≡◌}
use mathlib.Core.Bool.{true}
use Rattle.base_lists.specs.Below.{all_below}
use Rattle.list_rule_slots.specs.steps.SumsLent.{must, may}
use Rattle.list_rule_slots.proofs.SumLaws.{ordered}
use Rattle.list_rule_slots.proofs.sums.in_order.Given as goal

abbrev pub invariant-loop-slot : goal.invariant-loop-slot
invariant-loop-slot l =
    all_below l.slot (ordered l.counts (must l.sums) (may l.sums)) ≡ true
