-- Each return is one law: the tests before it held, and its own did not.
use Rattle.day_write.proofs.WriteLaws.{day-count, day-lengths, day-room, day-lists}
use Rattle.day_write.proofs.write.judge_day.Goals as goal

pub returns-then-not-in_range : goal.returns-then-not-in_range
returns-then-not-in_range c =
    day-count _ _ c.in_range.ensures (c.if-not-in_range.true)

pub returns-then-not-lengths_keep : goal.returns-then-not-lengths_keep
returns-then-not-lengths_keep c =
    day-lengths _ _ c.in_range.ensures (c.if-not-in_range.false) c.lengths_keep.ensures (c.if-not-lengths_keep.true)

pub returns-then-room-ne-LONGEST_FILE : goal.returns-then-room-ne-LONGEST_FILE
returns-then-room-ne-LONGEST_FILE c =
    day-room _ _ c.in_range.ensures (c.if-not-in_range.false) c.lengths_keep.ensures (c.if-not-lengths_keep.false) c.if-room-ne-LONGEST_FILE.true

pub returns : goal.returns
returns c =
    day-lists _ _ c.in_range.ensures (c.if-not-in_range.false) c.lengths_keep.ensures (c.if-not-lengths_keep.false) c.if-room-ne-LONGEST_FILE.false c.judge_lists.ensures
