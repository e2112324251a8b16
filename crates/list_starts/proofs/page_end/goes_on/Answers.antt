-- No room, no plan past the page's first, or none past its last.
use Rattle.list_starts.proofs.EndLaws.{no_room, not_first, page-room}
use Rattle.list_starts.proofs.page_end.goes_on.Goals as goal

pub returns-then-asked-eq0 : goal.returns-then-asked-eq0
returns-then-asked-eq0 c =
    no_room _ _ _ c.if-asked-eq0.true

pub returns-then-met-asked : goal.returns-then-met-asked
returns-then-met-asked c =
    not_first _ _ _ c.if-met-asked.true

pub returns : goal.returns
returns c =
    page-room _ _ _ c.if-asked-eq0.false c.if-met-asked.false
