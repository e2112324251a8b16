-- A slot that is found is short, and where none is found none is.
use Rattle.search_candidates.proofs.TestLaws.{short_is}
use Rattle.search_candidates.proofs.critical.some_short.Goals as goal

pub returns : goal.returns
returns c = short_is _ _ _ _ _ c.next_critical.ensures
