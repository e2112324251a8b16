-- The law of `set | (1 << choice)`; no choice is past 63.
use mathlib.Core.Path.{◌∙◌, ap}
use lib.Bits.{bit_or}
use Rattle.base_choice_sets.proofs.SetLaws.{with_law, with_past, bit_fits}
use borrow.Author.Rules.{rules}
use Rattle.base_choice_sets.proofs.set.with.Goals as goal

pub returns-then-choice-ge64 : goal.returns-then-choice-ge64
returns-then-choice-ge64 c = with_past _ _ (search rules) c.if-choice-ge64.true

pub returns : goal.returns
returns c = ap (bit_or c.args.set) (bit_fits c.args.choice c.if-choice-ge64.false) ∙ with_law _ _ (search rules) c.if-choice-ge64.false
