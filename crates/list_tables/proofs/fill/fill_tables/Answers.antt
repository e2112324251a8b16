-- Each refusal leaves the array, and the rest is filled.
use Rattle.list_tables.proofs.TableLaws.{fills-many-choices, fills-many-choosers, fills-other-length, fills-all}
use borrow.Author.Rules.{rules}
use Rattle.list_tables.proofs.fill.fill_tables.Goals as goal

pub returns-then-day-gt64 : goal.returns-then-day-gt64
returns-then-day-gt64 c =
    fills-many-choices _ _ _ c.if-day-gt64.true

pub returns-then-day-gt200 : goal.returns-then-day-gt200
returns-then-day-gt200 c =
    fills-many-choosers _ _ _ c.if-day-gt64.false c.if-day-gt200.true

pub returns-then-day : goal.returns-then-day
returns-then-day c =
    fills-other-length _ _ _ c.if-day-gt64.false c.if-day-gt200.false c.if-day.true

pub returns : goal.returns
returns c =
    fills-all _ _ _ _ c.if-day-gt64.false c.if-day-gt200.false c.if-day.false (search rules) c.fill_each.ensures
