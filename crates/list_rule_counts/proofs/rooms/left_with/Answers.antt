-- A choice that is not free, a slot that has room, and one that is full.
use Rattle.list_tables.specs.steps.Tables.{entry_at}
use Rattle.list_rule_counts.proofs.RoomLaws.{left-settled, left-room, left-full}
use Rattle.list_rule_counts.proofs.rooms.left_with.Goals as goal

pub returns-then-not-free : goal.returns-then-not-free
returns-then-not-free c =
    left-settled (entry_at _) _ _ _ _ _ _ _ (c.if-not-free.true)

pub returns-then-not-is_full : goal.returns-then-not-is_full
returns-then-not-is_full c =
    left-room (entry_at _) _ _ _ _ _ _ _ _ _ _ _ (c.if-not-free.false) c.from.ensures c.saturating_sub.ensures c.least_at-others.ensures.0 c.is_full.ensures (c.if-not-is_full.true)

pub returns : goal.returns
returns c =
    left-full (entry_at _) _ _ _ _ _ _ _ _ _ _ _ (c.if-not-free.false) c.from.ensures c.saturating_sub.ensures c.least_at-others.ensures.0 c.is_full.ensures _ (c.if-not-is_full.false) c.kept.ensures
