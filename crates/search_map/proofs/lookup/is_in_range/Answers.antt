-- One count after the other, then the choice.
use Rattle.search_map.proofs.Looking.{many-choices, many-rows, many-numbers, choice-decides}
use Rattle.search_map.proofs.lookup.is_in_range.Goals as goal

pub returns-then-counts-gt-MOST_CHOICES : goal.returns-then-counts-gt-MOST_CHOICES
returns-then-counts-gt-MOST_CHOICES c =
    many-choices _ _ c.if-counts-gt-MOST_CHOICES.true

pub returns-then-counts-gt-MOST_ROWS : goal.returns-then-counts-gt-MOST_ROWS
returns-then-counts-gt-MOST_ROWS c =
    many-rows _ _ c.if-counts-gt-MOST_CHOICES.false c.if-counts-gt-MOST_ROWS.true

pub returns-then-counts-gt-MOST_NUMBERS : goal.returns-then-counts-gt-MOST_NUMBERS
returns-then-counts-gt-MOST_NUMBERS c =
    many-numbers _ _ c.if-counts-gt-MOST_CHOICES.false c.if-counts-gt-MOST_ROWS.false c.if-counts-gt-MOST_NUMBERS.true

pub returns : goal.returns
returns c =
    choice-decides _ _ c.if-counts-gt-MOST_CHOICES.false c.if-counts-gt-MOST_ROWS.false c.if-counts-gt-MOST_NUMBERS.false
