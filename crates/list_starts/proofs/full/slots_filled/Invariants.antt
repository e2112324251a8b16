-- The loop's invariant: every slot passed is filled.
use mathlib.Core.Path.{◌≡◌}
use mathlib.Core.Bool.{true}
use lib.Dec.{leb}
use lib.ListN.{get_or}
use Rattle.base_lists.specs.Below.{all_below}
use Rattle.list_starts.proofs.full.slots_filled.Given as goal

abbrev pub invariant-loop-slot : goal.invariant-loop-slot
invariant-loop-slot l = all_below l.slot (λ s. leb l.choosers (get_or l.slot_max s 0)) ≡ true
