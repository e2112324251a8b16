-- The walk may not start, or it walks.
use Rattle.std.proofs.Common.{sym, ◌∙◌}
use Rattle.list_starts.proofs.ReadyLaws.{ready_means, walked-not, walked-ready}
use Rattle.list_walk.proofs.all.walk_all.Goals as goal

pub returns-then-not-is_ready : goal.returns-then-not-is_ready
returns-then-not-is_ready c = walked-not _ _ _ _ _ _ (sym c.is_ready.ensures ∙ c.if-not-is_ready.true)

pub walk_ready-requires : goal.walk_ready-requires
walk_ready-requires c =
    ready_means _ _ _ _ _ _ (sym c.is_ready.ensures ∙ c.if-not-is_ready.false)

pub returns : goal.returns
returns c =
    walked-ready _ _ _ _ _ _ (sym c.is_ready.ensures ∙ c.if-not-is_ready.false) c.walk_ready.ensures
