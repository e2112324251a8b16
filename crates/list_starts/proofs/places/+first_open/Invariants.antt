-- The next open place is this one, or one after it: places left fall.
use Rattle.list_starts.proofs.places.+first_open.Given as goal

abbrev pub decreases-first_open : goal.decreases-first_open
decreases-first_open l =
    l.left
