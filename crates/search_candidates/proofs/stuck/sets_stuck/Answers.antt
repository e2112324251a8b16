-- No set, or the sets of the choices in each slot decide.
use mathlib.Core.Path.{◌∙◌}
use borrow.Author.Rules.{rules}
use Rattle.search_candidates.proofs.StuckLaws.{none_stuck, stuck-by}
use Rattle.search_candidates.proofs.stuck.sets_stuck.Goals as goal

pub returns-then-is_empty : goal.returns-then-is_empty
returns-then-is_empty c = none_stuck _ _ _ _ (search rules)

pub returns : goal.returns
returns c = c.some_stuck.ensures ∙ stuck-by _ _ _ _ _ _ _ c.requires.1 c.held_by.ensures c.undecided_of.ensures
