-- A kind without the column, or what stands in it.
use Rattle.search_map.proofs.Entries.{no_right, right_is}
use Rattle.search_map.proofs.entry.has_right.Goals as goal

pub returns-then-not-names_right : goal.returns-then-not-names_right
returns-then-not-names_right c =
    no_right _ _ c.kind_of.ensures c.names_right.ensures (c.if-not-names_right.true)

pub returns : goal.returns
returns c =
    right_is _ _ c.kind_of.ensures c.names_right.ensures (c.if-not-names_right.false) c.right_of.ensures
