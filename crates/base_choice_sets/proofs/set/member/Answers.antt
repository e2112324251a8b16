-- The law of `(set >> choice) & 1 == 1`; no choice is past 63.
use mathlib.Core.Path.{sym}
use Rattle.base_choice_sets.proofs.SetLaws.{member_law, has-past}
use borrow.Author.Rules.{rules}
use Rattle.base_choice_sets.proofs.set.member.Goals as goal

pub returns-then-choice-ge64 : goal.returns-then-choice-ge64
returns-then-choice-ge64 c = sym (has-past _ 64 _ (search rules) c.if-choice-ge64.true)

pub returns : goal.returns
returns c = member_law _ _
