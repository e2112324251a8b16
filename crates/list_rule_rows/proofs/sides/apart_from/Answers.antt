-- One law, of bits, where the other side has one slot left.
use mathlib.Core.Path.{sym, ◌∙◌}
use Rattle.list_rule_rows.proofs.SideLaws.{apart-not, apart_law}
use borrow.Author.Rules.{rules}
use Rattle.list_rule_rows.proofs.sides.apart_from.Goals as goal

pub returns-then-not-in_one_slot : goal.returns-then-not-in_one_slot
returns-then-not-in_one_slot c = apart-not _ _ _ (sym c.in_one_slot.ensures ∙ c.if-not-in_one_slot.true)

pub returns : goal.returns
returns c = apart_law _ _ _ (search rules) (search rules) (sym c.in_one_slot.ensures ∙ c.if-not-in_one_slot.false)
