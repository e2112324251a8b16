-- One count after the other.
use Rattle.search_map.specs.Map.{map_lent}
use Rattle.search.proofs.OrderSteps.{CountedTo}
use Rattle.search.proofs.order.count_rows.Given as goal

abbrev pub invariant-loop-choice : goal.invariant-loop-choice
invariant-loop-choice l = CountedTo (map_lent l.map) l.whole l.choice l.counted
