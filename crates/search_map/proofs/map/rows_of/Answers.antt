-- No entry, or its part.
use Rattle.search_map.proofs.Holding.{looked-whole, looked-part}
use Rattle.search_map.proofs.map.rows_of.Goals as goal

pub returns-then-start-eq-NO_ENTRY : goal.returns-then-start-eq-NO_ENTRY
returns-then-start-eq-NO_ENTRY c =
    looked-whole _ _ _ _ c.word_at-start.ensures _ c.if-start-eq-NO_ENTRY.true

pub returns : goal.returns
returns c =
    looked-part _ _ _ _ c.word_at-start.ensures _ c.if-start-eq-NO_ENTRY.false c.word_at.ensures c.part.ensures
