-- One length after the other.
use Rattle.search_map.proofs.Holding.{starts-short, lengths_short, numbers_decide}
use Rattle.search_map.proofs.map.is_full.Goals as goal

pub returns-then-map-ne-MOST_CHOICES : goal.returns-then-map-ne-MOST_CHOICES
returns-then-map-ne-MOST_CHOICES c =
    starts-short _ _ _ c.if-map-ne-MOST_CHOICES.true

pub returns-then-map-ne-MOST_CHOICES-2 : goal.returns-then-map-ne-MOST_CHOICES-2
returns-then-map-ne-MOST_CHOICES-2 c =
    lengths_short _ _ _ c.if-map-ne-MOST_CHOICES.false c.if-map-ne-MOST_CHOICES-2.true

pub returns : goal.returns
returns c =
    numbers_decide _ _ _ c.if-map-ne-MOST_CHOICES.false c.if-map-ne-MOST_CHOICES-2.false
