-- The lack, and what the choice leaves of it.
use Rattle.list_look.proofs.SlotLaws.{leaves_by}
use Rattle.list_look.proofs.open.leaves_enough.Goals as goal

pub returns : goal.returns
returns c =
    leaves_by _ _ _ _ _ _ _ _ _ _ _ _ c.saturating_sub-lack.ensures c.saturating_sub.ensures c.lightest-less.ensures.0 c.lightest-whole.ensures.0
