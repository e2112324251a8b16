-- The walk: choices left and places left fall; each need is one law of WalkLaws.
use Rattle.std.proofs.Common.{◌+◌, ◌-◌, ◌*◌, length}
use Rattle.list_walk.proofs.walk.+walk_choice_walk_open_walk_place.Given as goal

abbrev pub decreases-walk_choice : goal.decreases-walk_choice
decreases-walk_choice l = (length l.day.now.mins.now - l.choice) * 32 + 31

abbrev pub decreases-walk_open : goal.decreases-walk_open
decreases-walk_open l = (length l.day.now.mins.now - l.choice) * 32 + 30

abbrev pub decreases-walk_place : goal.decreases-walk_place
decreases-walk_place l = (length l.day.now.mins.now - l.choice) * 32 + l.left
