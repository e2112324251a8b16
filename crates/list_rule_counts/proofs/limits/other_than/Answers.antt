-- Another count stays, the limit is raised.
use Rattle.list_rule_counts.proofs.LimitLaws.{other-same, other-more}
use Rattle.list_rule_counts.proofs.limits.other_than.Goals as goal

pub returns-then-count-limit : goal.returns-then-count-limit
returns-then-count-limit c =
    other-same _ _ c.if-count-limit.true

pub returns : goal.returns
returns c =
    other-more _ _ c.if-count-limit.false
