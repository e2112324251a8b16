-- The law of `(outer & inner) == inner`.
use Rattle.base_choice_sets.proofs.SetLaws.{within_law}
use borrow.Author.Rules.{rules}
use Rattle.base_choice_sets.proofs.set.is_within.Goals as goal

pub returns : goal.returns
returns c = within_law _ _ (search rules) (search rules)
