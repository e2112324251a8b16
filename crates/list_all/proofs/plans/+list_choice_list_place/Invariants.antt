-- The second run: choices left and places left fall; each need is one law of ListLaws.
use Prim.Native.Nat.{◌+◌, ◌-◌, ◌*◌}
use lib.ListN.{length}
use Rattle.list_all.proofs.plans.+list_choice_list_place.Given as goal

abbrev pub decreases-list_choice : goal.decreases-list_choice
decreases-list_choice l = (length l.day.now.mins.now - l.choice) * 32 + 31

abbrev pub decreases-list_place : goal.decreases-list_place
decreases-list_place l = (length l.day.now.mins.now - l.choice) * 32 + l.left
