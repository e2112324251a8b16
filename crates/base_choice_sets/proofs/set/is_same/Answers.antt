-- The law of `one == other`.
use Rattle.base_choice_sets.proofs.SetLaws.{same_law}
use borrow.Author.Rules.{rules}
use Rattle.base_choice_sets.proofs.set.is_same.Goals as goal

pub returns : goal.returns
returns c = same_law _ _ (search rules) (search rules)
