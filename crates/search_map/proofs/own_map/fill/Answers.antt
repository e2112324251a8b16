-- The pools cleared and filled; with too many numbers, cleared again.
use Rattle.search_map.proofs.Filling.{given-cleared, filled_in, filled-over}
use Rattle.search_map.proofs.own_map.fill.Goals as goal

pub returns-then-count-le-MOST_NUMBERS : goal.returns-then-count-le-MOST_NUMBERS
returns-then-count-le-MOST_NUMBERS c =
    filled_in c.requires c.clear.ensures c.add_entries-count.ensures c.if-count-le-MOST_NUMBERS.true

pub returns : goal.returns
returns c =
    filled-over (given-cleared c.requires c.clear.ensures) c.add_entries-count.ensures c.if-count-le-MOST_NUMBERS.false c.clear-2.ensures
