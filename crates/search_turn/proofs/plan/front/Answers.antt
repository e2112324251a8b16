use Rattle.search_turn.proofs.PlanLaws.{front-short, front_cut}
use Rattle.search_turn.proofs.plan.front.Goals as goal

pub returns-then-decisions-choices : goal.returns-then-decisions-choices
returns-then-decisions-choices c =
    front-short _ _ c.if-decisions-choices.true

pub returns : goal.returns
returns c =
    front_cut c.args.decisions.now c.args.choices
