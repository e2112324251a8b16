-- Whole, empty, or cut at the end.
use Rattle.search_map.proofs.Holding.{part_in, part-past, part_cut}
use Rattle.search_map.proofs.map.part.Goals as goal

pub returns-then-end-numbers : goal.returns-then-end-numbers
returns-then-end-numbers c =
    part_in _ _ _

pub returns-then-numbers-start : goal.returns-then-numbers-start
returns-then-numbers-start c =
    part-past _ _ _ c.if-numbers-start.true

pub returns : goal.returns
returns c =
    part_cut _ _ _ c.if-end-numbers.false c.if-numbers-start.false
