-- No entry, or its end.
use Rattle.search_map.proofs.Holding.{fits-none, fits-end}
use Rattle.search_map.proofs.map.entry_fits.Goals as goal

pub returns-then-start-eq-NO_ENTRY : goal.returns-then-start-eq-NO_ENTRY
returns-then-start-eq-NO_ENTRY c =
    fits-none _ _ _ _ c.word_at-start.ensures _ c.if-start-eq-NO_ENTRY.true

pub returns : goal.returns
returns c =
    fits-end _ _ _ _ c.word_at-start.ensures _ c.if-start-eq-NO_ENTRY.false c.word_at.ensures
