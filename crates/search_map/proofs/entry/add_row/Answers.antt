-- Nothing, or the number at the place.
use Rattle.search_map.proofs.Entries.{wrote_none, wrote_one}
use Rattle.search_map.proofs.entry.add_row.Goals as goal

pub returns-then-not-is_concerned : goal.returns-then-not-is_concerned
returns-then-not-is_concerned c =
    wrote_none _ _ _ c.is_concerned.ensures (c.if-not-is_concerned.true)

pub returns : goal.returns
returns c =
    wrote_one _ _ _ c.is_concerned.ensures (c.if-not-is_concerned.false) c.put.ensures
