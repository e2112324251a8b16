use Rattle.std.proofs.Common.{rules}
use Rattle.search_turn.proofs.DepthLaws.{depth_is}
use Rattle.search_turn.proofs.asked.depth_at.Goals as goal

pub returns : goal.returns
returns c =
    depth_is _ _ _ _ _ _ _ _ _ _ c.choice_at-choice.ensures (search rules) (search rules) c.flag_of.ensures c.is_last.ensures (search rules)
