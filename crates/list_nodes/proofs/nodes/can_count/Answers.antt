-- Each test of a day whose nodes can be counted in its turn.
use mathlib.Core.Path.{sym, ◌∙◌}
use Rattle.list_nodes.proofs.NodeLaws.{count-range, count-mins, count-decides}
use Rattle.list_nodes.proofs.nodes.can_count.Goals as goal

pub returns-then-not-counts_in_range : goal.returns-then-not-counts_in_range
returns-then-not-counts_in_range c = count-range _ (sym c.counts_in_range.ensures ∙ c.if-not-counts_in_range.true)

pub returns-then-day : goal.returns-then-day
returns-then-day c =
    count-mins _ (sym c.counts_in_range.ensures ∙ c.if-not-counts_in_range.false) c.if-day.true

pub returns : goal.returns
returns c =
    count-decides _ (sym c.counts_in_range.ensures ∙ c.if-not-counts_in_range.false) c.if-day.false
