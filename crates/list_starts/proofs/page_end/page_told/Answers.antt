-- The list ended, turns ran out, or the page is over.
use Rattle.list_starts.proofs.EndLaws.{told-ended, told-turns, told_goes_on}
use Rattle.list_starts.proofs.page_end.page_told.Goals as goal

pub returns-then-going : goal.returns-then-going
returns-then-going c =
    told-ended _ _ c.written_of-written.ensures c.if-going.true

pub returns-then-goes_on : goal.returns-then-goes_on
returns-then-goes_on c =
    told-turns _ _ c.written_of-written.ensures c.if-going.false c.goes_on.ensures c.if-goes_on.true

pub returns : goal.returns
returns c =
    told_goes_on _ _ c.written_of-written.ensures c.if-going.false c.goes_on.ensures c.if-goes_on.false
