-- The first run: choices left and places left fall; each need is one law of CountLaws.
use Prim.Native.Nat.{◌+◌, ◌-◌, ◌*◌}
use lib.ListN.{length}
use Rattle.list_nodes.proofs.nodes.+count_choice_count_place.Given as goal

abbrev pub decreases-count_choice : goal.decreases-count_choice
decreases-count_choice l = (length l.day.now.mins.now - l.choice) * 32 + 31

abbrev pub decreases-count_place : goal.decreases-count_place
decreases-count_place l = (length l.day.now.mins.now - l.choice) * 32 + (l.day.now.counts.slots - l.slot)
