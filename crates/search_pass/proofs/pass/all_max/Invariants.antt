use Rattle.search_pass.proofs.PlanLaws.{Adding}
use Rattle.search_pass.proofs.pass.all_max.Given as goal

abbrev pub invariant-loop-choice : goal.invariant-loop-choice
invariant-loop-choice l =
    Adding l.order l.maxs l.sum l.choice-index
