-- Of a day past the limits no node is counted.
use mathlib.Core.Path.{sym, ◌∙◌}
use Rattle.list_nodes.proofs.NodeLaws.{none-counted}
use Rattle.list_nodes.proofs.nodes.count_nodes.Goals as goal

pub returns-then-not-can_count : goal.returns-then-not-can_count
returns-then-not-can_count c = none-counted _ _ (sym c.can_count.ensures ∙ c.if-not-can_count.true)

pub count_all-requires : goal.count_all-requires
count_all-requires c = sym c.can_count.ensures ∙ c.if-not-can_count.false
