-- The law of `(one & other) != 0`.
use Rattle.base_choice_sets.proofs.SetLaws.{meets_law}
use borrow.Author.Rules.{rules}
use Rattle.base_choice_sets.proofs.reach.meet.Goals as goal

pub returns : goal.returns
returns c = meets_law _ _ (search rules) (search rules)
