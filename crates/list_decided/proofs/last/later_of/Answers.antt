-- The later of two choices, none if they are one.
use Rattle.std.proofs.Common.{rules}
use Rattle.list_decided.proofs.LastLaws.{later_same, later_two}
use Rattle.list_decided.proofs.last.later_of.Goals as goal

pub returns-then-left-right : goal.returns-then-left-right
returns-then-left-right c = later_same _ _ c.if-left-right.true

pub returns : goal.returns
returns c = later_two _ _ _ c.if-left-right.false (search rules)
