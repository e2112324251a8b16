-- Past the list there is no place.
use Rattle.base_lists.proofs.Lists.{past-none}
use Rattle.list_look.proofs.see.domain_of.Goals as goal

pub returns-then-domains-choice : goal.returns-then-domains-choice
returns-then-domains-choice c = past-none c.args.domains.now _ c.if-domains-choice.true
