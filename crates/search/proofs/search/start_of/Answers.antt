-- The last level if the flag says so.
use Rattle.search.proofs.CallSteps.{start-last}
use Rattle.search.proofs.search.start_of.Goals as goal

pub returns-then-at_last_level : goal.returns-then-at_last_level
returns-then-at_last_level c = start-last _ _ _ c.if-at_last_level.true c.last_level.ensures
