-- What is left where there are limits, or what tables alone leave.
use Rattle.list_look.proofs.StepLaws.{weigh_limited, weigh_unlimited}
use Rattle.list_look.proofs.weigh.weigh.Goals as goal

pub returns-then-has_limit : goal.returns-then-has_limit
returns-then-has_limit c =
    weigh_limited _ _ _ _ _ c.free_of-free.ensures c.lacks_of-lacks.ensures c.has_limit.ensures c.if-has_limit.true c.narrow_by_limits.ensures

pub returns : goal.returns
returns c =
    weigh_unlimited _ _ _ _ _ c.free_of-free.ensures c.lacks_of-lacks.ensures c.has_limit.ensures c.if-has_limit.false c.narrow_by_tables.ensures
