-- The choices of both sets, counted.
use mathlib.Core.Path.{◌∙◌}
use Rattle.base_choice_sets.proofs.ReachLaws.{undecided_law}
use borrow.Author.Rules.{rules}
use Rattle.base_choice_sets.proofs.reach.undecided_members.Goals as goal

pub returns : goal.returns
returns c = c.size.ensures ∙ undecided_law _ _ (search rules) (search rules)
