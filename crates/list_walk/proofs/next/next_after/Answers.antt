-- The next place after one fewer.
use Rattle.list_walk.proofs.next.next_after.Goals as goal

pub returns : goal.returns
returns c = rw c.saturating_sub.ensures at c.next_open.ensures
