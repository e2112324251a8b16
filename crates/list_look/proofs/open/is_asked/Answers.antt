-- Each limit that the tables have.
use Rattle.list_look.proofs.SlotLaws.{asked-choosers, asked-choices, asked-choice}
use Rattle.list_look.proofs.open.is_asked.Goals as goal

pub returns-then-counts-gt200 : goal.returns-then-counts-gt200
returns-then-counts-gt200 c =
    asked-choosers _ _ c.requires c.if-counts-gt200.true

pub returns-then-counts-gt64 : goal.returns-then-counts-gt64
returns-then-counts-gt64 c =
    asked-choices _ _ c.requires c.if-counts-gt200.false c.if-counts-gt64.true

pub returns : goal.returns
returns c =
    asked-choice _ _ c.requires c.if-counts-gt200.false c.if-counts-gt64.false
