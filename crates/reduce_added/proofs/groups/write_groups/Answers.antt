-- The record is never refused, and its groups are written.
use Rattle.reduce_added.proofs.Joining.{groups-told, groups_unrefused}
use Rattle.reduce_added.proofs.groups.write_groups.Goals as goal

pub returns-in_default : goal.returns-in_default
returns-in_default c = absurd (groups_unrefused _ _ _ _ _ _ c.join_rows-state.ensures c.requires.0 c.requires.1 c.requires.2 c.groups.ensures _ c.in_default.is)

pub returns : goal.returns
returns c = groups-told _ _ _ _ _ _ c.join_rows-state.ensures c.requires.0 c.requires.1 c.requires.2 c.groups.ensures _ c.in-Ok.is
