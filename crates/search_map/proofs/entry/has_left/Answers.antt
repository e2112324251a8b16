-- A kind without the column, or what stands in it.
use Rattle.search_map.proofs.Entries.{no_left, left_is}
use Rattle.search_map.proofs.entry.has_left.Goals as goal

pub returns-then-not-names_left : goal.returns-then-not-names_left
returns-then-not-names_left c =
    no_left _ _ c.kind_of.ensures c.names_left.ensures (c.if-not-names_left.true)

pub returns : goal.returns
returns c =
    left_is _ _ c.kind_of.ensures c.names_left.ensures (c.if-not-names_left.false) c.left_of.ensures
