-- One law, of bits; past every place nothing is left.
use Rattle.list_rule_rows.proofs.MoveLaws.{down_law, down-past}
use borrow.Author.Rules.{rules}
use Rattle.list_rule_rows.proofs.moves.moved_down.Goals as goal

pub returns-then-by-ge64 : goal.returns-then-by-ge64
returns-then-by-ge64 c = down-past _ _ _ (search rules) c.if-by-ge64.true

pub returns : goal.returns
returns c = down_law _ _ _ _ (search rules) c.first_domain.ensures
