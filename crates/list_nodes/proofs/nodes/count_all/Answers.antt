-- From the empty start the budget holds for the nodes, or it doesn't.
use mathlib.Core.Path.{refl}
use Rattle.list_nodes.proofs.NodeLaws.{count_walks, counted-over, counted-within}
use Rattle.list_nodes.proofs.nodes.count_all.Goals as goal

pub count_choice-requires : goal.count_choice-requires
count_choice-requires c = count_walks _ c.requires refl

pub returns-then-not-count_choice : goal.returns-then-not-count_choice
returns-then-not-count_choice c =
    counted-over _ c.requires refl c.count_choice.ensures (c.if-not-count_choice.true)

pub returns : goal.returns
returns c =
    counted-within _ c.requires refl c.count_choice.ensures (c.if-not-count_choice.false) c.saturating_sub.ensures
