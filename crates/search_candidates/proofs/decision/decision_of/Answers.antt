-- Past the list's end, or the byte.
use Rattle.search_candidates.proofs.CaseLaws.{decision_past, decision_at}
use Rattle.search_candidates.proofs.decision.decision_of.Goals as goal

pub returns-then-decisions-choice : goal.returns-then-decisions-choice
returns-then-decisions-choice c =
    decision_past _ _ c.if-decisions-choice.true

pub returns : goal.returns
returns c =
    decision_at _ _ c.if-decisions-choice.false
